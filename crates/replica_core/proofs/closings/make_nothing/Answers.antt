use Rattle.std.proofs.Common.{arith}
use Rattle.std.proofs.lemmas.Grind.{common_steps}
use Rattle.replica_core.proofs.closings.make_nothing.Goals as goal

pub loop-ending-preserved : goal.loop-ending-preserved
loop-ending-preserved c = grind (arith, common_steps)

pub returns-clause-endings : goal.returns-clause-endings
returns-clause-endings c = grind (arith, common_steps)
