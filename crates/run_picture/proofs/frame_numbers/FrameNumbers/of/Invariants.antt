-- the frames so far have their numbers
use Rattle.run_picture.proofs.Numbering.{AreNumbered}
use Rattle.run_picture.proofs.frame_numbers.FrameNumbers.of.Given as goal

abbrev pub invariant-loop-frame : goal.invariant-loop-frame
invariant-loop-frame l = AreNumbered l.sent l.strings l.numbers.items l.frame-index
