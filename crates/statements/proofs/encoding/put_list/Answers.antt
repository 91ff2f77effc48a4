use Rattle.statements.proofs.encoding.put_list.Goals as goal
use Rattle.std.proofs.Common.{arith}
use Rattle.std.proofs.lemmas.Grind.{common_steps}

pub loop-batch-preserved : goal.loop-batch-preserved
loop-batch-preserved c = grind (arith, common_steps)

pub returns : goal.returns
returns c = grind (arith, common_steps)
