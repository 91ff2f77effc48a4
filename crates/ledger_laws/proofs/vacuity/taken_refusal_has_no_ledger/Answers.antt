use Rattle.ledger_laws.proofs.Refuted.{taken_refusal_has_no_ledger}
use Rattle.ledger_laws.proofs.vacuity.taken_refusal_has_no_ledger.Goals as goal

pub returns : goal.returns
returns c = taken_refusal_has_no_ledger
