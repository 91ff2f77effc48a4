use Rattle.scenario_texts.proofs.command_reading.submit.Goals as goal
use Rattle.scenario_texts.specs.Reading.{submit_of}
use Rattle.std.proofs.Common.{arith}
use Rattle.std.proofs.lemmas.Grind.{common_steps}

pub returns : goal.returns
unfolding submit_of
returns c = grind (arith, common_steps)

pub returns-in_default : goal.returns-in_default
unfolding submit_of
returns-in_default c = grind (arith, common_steps)

pub returns-in_default-2 : goal.returns-in_default-2
unfolding submit_of
returns-in_default-2 c = grind (arith, common_steps)
