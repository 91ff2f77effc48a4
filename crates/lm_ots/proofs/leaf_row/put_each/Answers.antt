use Rattle.std.proofs.Common.{rules}
use Rattle.lm_ots.proofs.leaf_row.put_each.Goals as goal

pub loop-lane-preserved : goal.loop-lane-preserved
loop-lane-preserved c = search rules
