use Rattle.std.proofs.Common.{rules}
use Rattle.app_states.proofs.state_machine.StateMachineApplication.check_tx.Goals as goal

pub returns : goal.returns
returns g c = search rules
