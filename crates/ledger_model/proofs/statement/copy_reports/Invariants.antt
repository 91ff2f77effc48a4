use Rattle.std.proofs.Common.{◌≡◌, take}
use Rattle.ledger_model.proofs.statement.copy_reports.Given as goal

abbrev pub invariant-loop-report : goal.invariant-loop-report
invariant-loop-report l = l.copied.items ≡ take l.report-index l.reports
