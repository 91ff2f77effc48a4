use Rattle.ledger_laws.proofs.Refuted.{wrong_query_has_no_ledger}
use Rattle.ledger_laws.proofs.vacuity.wrong_query_has_no_ledger.Goals as goal

pub returns : goal.returns
returns c = wrong_query_has_no_ledger
