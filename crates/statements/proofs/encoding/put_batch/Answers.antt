use Rattle.statements.proofs.encoding.put_batch.Goals as goal
use Rattle.std.proofs.Common.{arith}
use Rattle.std.proofs.lemmas.Grind.{common_steps}

pub loop-tx-preserved : goal.loop-tx-preserved
loop-tx-preserved c = grind (arith, common_steps)

pub returns : goal.returns
returns c = grind (arith, common_steps)
