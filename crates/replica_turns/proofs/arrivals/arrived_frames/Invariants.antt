-- the frames so far, and those among the bytes that are left, are all
use Rattle.std.proofs.Common.{◌≡◌, ◌++◌}
use Rattle.std.specs.List.{filter_map}
use Rattle.ledger_model.specs.Reading.{reading_in}
use Rattle.replica_turns.specs.Arrivals.{distinct}
use Rattle.replica_turns.proofs.arrivals.arrived_frames.Given as goal

abbrev pub invariant-loop-bytes : goal.invariant-loop-bytes
invariant-loop-bytes l =
    l.frames.items ++ filter_map (reading_in l.version) l.bytes-iterator.rest.items
    ≡ filter_map (reading_in l.version) (distinct l.fn.arrived)
