use Rattle.history_bytes.proofs.replies.put_frames.Goals as goal
use Rattle.std.proofs.Common.{arith}
use Rattle.std.proofs.lemmas.Grind.{common_steps}

pub loop-sent-preserved : goal.loop-sent-preserved
loop-sent-preserved c = grind (arith, common_steps)

pub returns : goal.returns
returns c = grind (arith, common_steps)
