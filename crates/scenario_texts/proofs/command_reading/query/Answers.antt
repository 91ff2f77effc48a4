use Rattle.scenario_texts.proofs.command_reading.query.Goals as goal
use Rattle.scenario_texts.specs.Reading.{query_command}
use Rattle.std.proofs.Common.{arith}
use Rattle.std.proofs.lemmas.Grind.{common_steps}

pub returns-in-Err : goal.returns-in-Err
unfolding query_command
returns-in-Err c = grind (arith, common_steps)

pub returns-in-Ok : goal.returns-in-Ok
unfolding query_command
returns-in-Ok c = grind (arith, common_steps)

pub returns-in_default : goal.returns-in_default
unfolding query_command
returns-in_default c = grind (arith, common_steps)

pub returns-in_default-2 : goal.returns-in_default-2
unfolding query_command
returns-in_default-2 c = grind (arith, common_steps)
