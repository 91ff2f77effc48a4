use Rattle.ledger_laws.proofs.Computed.{lock_released}
use Rattle.ledger_laws.proofs.examples.lock_released.Goals as goal

pub returns : goal.returns
returns c = lock_released
