use Rattle.scenario_texts.proofs.command_reading.inject.Goals as goal
use Rattle.scenario_texts.specs.Reading.{inject_of}
use Rattle.std.proofs.Common.{arith}
use Rattle.std.proofs.lemmas.Grind.{common_steps}

pub returns : goal.returns
unfolding inject_of
returns c = grind (arith, common_steps)

pub returns-in_default : goal.returns-in_default
unfolding inject_of
returns-in_default c = grind (arith, common_steps)

pub returns-in_default-2 : goal.returns-in_default-2
unfolding inject_of
returns-in_default-2 c = grind (arith, common_steps)
