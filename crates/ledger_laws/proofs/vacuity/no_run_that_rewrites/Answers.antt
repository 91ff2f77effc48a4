use Rattle.ledger_laws.proofs.Refuted.{no_run_that_rewrites}
use Rattle.ledger_laws.proofs.vacuity.no_run_that_rewrites.Goals as goal

pub returns : goal.returns
returns c = no_run_that_rewrites
