use Rattle.ledger_laws.proofs.AuditExamples.{quiet_histories_pass, report_example, lock_example}
use Rattle.ledger_laws.proofs.vacuity.audit_can_pass.Goals as goal

pub returns-clause-replays : goal.returns-clause-replays
returns-clause-replays c = quiet_histories_pass

pub returns-clause-reports : goal.returns-clause-reports
returns-clause-reports c = report_example

pub returns-clause-locks : goal.returns-clause-locks
returns-clause-locks c = lock_example
