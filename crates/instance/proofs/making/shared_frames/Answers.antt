use Rattle.std.proofs.Common.{arith}
use Rattle.std.proofs.lemmas.Grind.{common_steps}
use Rattle.instance.proofs.making.shared_frames.Goals as goal

pub loop-lock-preserved : goal.loop-lock-preserved
loop-lock-preserved c = grind (arith, common_steps)

pub returns : goal.returns
returns c = grind (arith, common_steps)
