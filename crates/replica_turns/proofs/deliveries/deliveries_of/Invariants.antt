-- the deliveries of the frames so far
use Rattle.std.proofs.Common.{◌≡◌, take}
use Rattle.replica_turns.specs.Turns.{deliveries_of}
use Rattle.replica_turns.proofs.deliveries.deliveries_of.Given as goal

abbrev pub invariant-loop-frame : goal.invariant-loop-frame
invariant-loop-frame l = l.events.items ≡ deliveries_of (take l.frame-index l.frames)
