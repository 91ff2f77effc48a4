use Rattle.ledger_laws.proofs.Refuted.{no_run_without_ledger}
use Rattle.ledger_laws.proofs.vacuity.no_run_without_ledger.Goals as goal

pub returns : goal.returns
returns c = no_run_without_ledger
