-- the frames of the heights so far
use Rattle.std.proofs.Common.{◌≡◌, take}
use Rattle.std.specs.List.{flat_map}
use Rattle.replica_core.specs.Sending.{frames_of_closing}
use Rattle.replica_core.proofs.sending.frames_to_send.Given as goal

abbrev pub invariant-loop-closing : goal.invariant-loop-closing
invariant-loop-closing l = l.sent.items ≡ flat_map (frames_of_closing l.config) (take l.closing-index l.closings)
