use Rattle.ledger_laws.proofs.UniqueLedgers.{ledger_is_unique}
use Rattle.ledger_laws.proofs.vacuity.ledger_is_unique.Goals as goal

pub returns : goal.returns
returns c = ledger_is_unique
