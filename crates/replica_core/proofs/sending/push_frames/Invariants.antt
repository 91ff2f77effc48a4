-- the frames that were there, and the locks so far
use Rattle.std.proofs.Common.{◌≡◌, ◌++◌, map, take}
use Rattle.replica_core.specs.RoundEnds.{sent_on}
use Rattle.replica_core.proofs.sending.push_frames.Given as goal

abbrev pub invariant-loop-frame : goal.invariant-loop-frame
invariant-loop-frame l = l.sent.items ≡ l.initial.sent.items ++ map sent_on (take l.frame-index l.frame-items)
