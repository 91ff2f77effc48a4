-- those so far are the same
use Rattle.std.proofs.Common.{◌≡◌, take}
use Rattle.replica_core.proofs.comparing.is_same_frames.Given as goal

abbrev pub invariant-loop-place : goal.invariant-loop-place
invariant-loop-place l = take l.place l.due ≡ take l.place l.shown
