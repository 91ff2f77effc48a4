use Rattle.ledger_laws.proofs.AuditedForks.{fork_is_caught}
use Rattle.ledger_laws.proofs.AuditExamples.{caught_fork_example}
use Rattle.ledger_laws.proofs.vacuity.fork_is_caught.Goals as goal

pub returns-clause-law : goal.returns-clause-law
returns-clause-law c = fork_is_caught

pub returns-clause-example : goal.returns-clause-example
returns-clause-example c = caught_fork_example
