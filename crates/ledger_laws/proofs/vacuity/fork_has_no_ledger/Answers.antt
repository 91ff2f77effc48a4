use Rattle.ledger_laws.proofs.Refuted.{fork_has_no_ledger, fork_example}
use Rattle.ledger_laws.proofs.vacuity.fork_has_no_ledger.Goals as goal

pub returns-clause-law : goal.returns-clause-law
returns-clause-law c = fork_has_no_ledger

pub returns-clause-example : goal.returns-clause-example
returns-clause-example c = fork_example
