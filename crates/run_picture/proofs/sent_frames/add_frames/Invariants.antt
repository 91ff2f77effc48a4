-- what was appended, with what the rest adds, is what all of them add
use Rattle.std.proofs.Common.{◌≡◌, ◌++◌, drop}
use Rattle.run_picture.specs.Frames.{frames_from}
use Rattle.run_picture.proofs.sent_frames.add_frames.Given as goal

abbrev pub invariant-loop-place : goal.invariant-loop-place
invariant-loop-place l = l.out.items ++ frames_from l.part l.at l.place (drop l.place l.frames) ≡ l.fn.out.items
    ++ frames_from l.part l.at 0 l.frames
