use Rattle.std.proofs.Common.{arith}
use Rattle.std.proofs.lemmas.Grind.{common_steps}
use Rattle.replica_turns.proofs.arrivals.unknown_parts.Goals as goal

pub loop-frame-preserved : goal.loop-frame-preserved
loop-frame-preserved c = grind (arith, common_steps)
