use Rattle.std.proofs.Common.{◌-◌, length}
use Rattle.signed_frames.proofs.Fronts.{TakesUp}
use Rattle.signed_frames.proofs.splitting.frames_of.Given as goal

abbrev pub invariant-loop-frames : goal.invariant-loop-frames
invariant-loop-frames l = TakesUp l.fn.version l.bytes l.frames.items l.used

abbrev pub decreases-loop-frames : goal.decreases-loop-frames
decreases-loop-frames l = length l.bytes - l.used
