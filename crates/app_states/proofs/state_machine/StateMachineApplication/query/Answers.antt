use Rattle.std.proofs.Common.{rules}
use Rattle.app_states.proofs.state_machine.StateMachineApplication.query.Goals as goal

pub returns-in-Ok-clause-not_held : goal.returns-in-Ok-clause-not_held
returns-in-Ok-clause-not_held g c = search rules

pub returns-in-Err-clause-not_held : goal.returns-in-Err-clause-not_held
returns-in-Err-clause-not_held g c = search rules
