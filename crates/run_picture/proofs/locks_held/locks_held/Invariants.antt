-- the locks that the frames so far show
use Rattle.std.proofs.Common.{◌≡◌, take}
use Rattle.run_picture.specs.Facts.{locks_held}
use Rattle.run_picture.proofs.locks_held.locks_held.Given as goal

abbrev pub invariant-loop-frame : goal.invariant-loop-frame
invariant-loop-frame l = l.marks.items ≡ locks_held (take l.frame-index l.sent)
