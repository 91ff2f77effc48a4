use Rattle.std.proofs.Common.{arith}
use Rattle.std.proofs.lemmas.Grind.{common_steps}
use Rattle.ledger_model.proofs.statement.copy_reports.Goals as goal

pub loop-report-preserved : goal.loop-report-preserved
loop-report-preserved c = grind (arith, common_steps)

pub returns : goal.returns
returns c = grind (arith, common_steps)
