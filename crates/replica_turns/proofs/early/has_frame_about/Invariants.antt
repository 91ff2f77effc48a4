-- none of the frames so far is about the height
use Rattle.std.proofs.Common.{◌≡◌, false, take}
use Rattle.replica_turns.specs.OwnEvents.{has_frame_about}
use Rattle.replica_turns.proofs.early.has_frame_about.Given as goal

abbrev pub invariant-loop-frame : goal.invariant-loop-frame
invariant-loop-frame l = has_frame_about l.version l.height (take l.frame-index l.frames) ≡ false
