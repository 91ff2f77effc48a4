use Rattle.signed_frames.proofs.reader.FrameReader.is_between.Goals as goal
use Rattle.std.proofs.Common.{arith}
use Rattle.std.proofs.lemmas.Grind.{common_steps}

pub returns-then-eq : goal.returns-then-eq
returns-then-eq c = grind (arith, common_steps)
