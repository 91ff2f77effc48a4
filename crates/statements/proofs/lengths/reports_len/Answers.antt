use Rattle.std.proofs.Common.{arith}
use Rattle.std.proofs.lemmas.Grind.{common_steps}
use Rattle.statements.proofs.lengths.reports_len.Goals as goal

pub loop-signed-preserved : goal.loop-signed-preserved
loop-signed-preserved c = grind (arith, common_steps)
