use Rattle.ledger_laws.proofs.Refuted.{agreement_has_ledger}
use Rattle.ledger_laws.proofs.vacuity.agreement_has_ledger.Goals as goal

pub returns : goal.returns
returns c = agreement_has_ledger
