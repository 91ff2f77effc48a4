use Rattle.scenario_texts.proofs.CommandReading.{lie_made-of}
use Rattle.scenario_texts.proofs.command_reading.lie.Goals as goal
use Rattle.scenario_texts.specs.Reading.{lie_of}
use Rattle.std.proofs.Common.{arith}
use Rattle.std.proofs.lemmas.Grind.{common_steps}

pub returns : goal.returns
unfolding lie_of
returns c = lie_made-of _ _ (grind (arith, common_steps))

pub returns-in_default : goal.returns-in_default
unfolding lie_of
returns-in_default c = grind (arith, common_steps)

pub returns-in_default-2 : goal.returns-in_default-2
unfolding lie_of
returns-in_default-2 c = grind (arith, common_steps)

pub returns-in_default-liar : goal.returns-in_default-liar
unfolding lie_of
returns-in_default-liar c = grind (arith, common_steps)

pub returns-in_default-positive : goal.returns-in_default-positive
unfolding lie_of
returns-in_default-positive c = grind (arith, common_steps)

pub returns-in_default-positive-2 : goal.returns-in_default-positive-2
unfolding lie_of
returns-in_default-positive-2 c = grind (arith, common_steps)

pub returns-in_default-towards : goal.returns-in_default-towards
unfolding lie_of
returns-in_default-towards c = grind (arith, common_steps)
