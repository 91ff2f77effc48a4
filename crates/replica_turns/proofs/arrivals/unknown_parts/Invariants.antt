-- the unknown parts of the frames so far
use Rattle.std.proofs.Common.{◌≡◌, filter, map, take}
use Rattle.signed_frames.specs.Lending.{own_part}
use Rattle.replica_turns.specs.Arrivals.{is_unknown}
use Rattle.replica_turns.proofs.arrivals.unknown_parts.Given as goal

abbrev pub invariant-loop-frame : goal.invariant-loop-frame
invariant-loop-frame l = l.parts.items ≡ filter (is_unknown l.fn.verifier) (map own_part (take l.frame-index l.fn.frames))
