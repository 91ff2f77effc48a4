-- Nothing was accepted before the first block.
use Rattle.std.proofs.Common.{refl}
use Rattle.ledger_model.specs.Applications.{run}
use Rattle.ledger_model.specs.Meanings.{accepted_by}
use Rattle.app_states.proofs.state_machine.StateMachine.new.Goals as goal

pub returns : goal.returns
unfolding run accepted_by
returns g c = rw c.opening-committed.ensures refl
