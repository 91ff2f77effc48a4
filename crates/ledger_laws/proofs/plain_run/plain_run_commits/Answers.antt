use Rattle.ledger_laws.proofs.PlainRun.{plain_run_commits}
use Rattle.ledger_laws.proofs.plain_run.plain_run_commits.Goals as goal

pub returns : goal.returns
returns c = plain_run_commits
