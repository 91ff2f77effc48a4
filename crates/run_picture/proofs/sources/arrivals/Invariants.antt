-- the deliveries so far have their sources, the others are still to come, and the incoming frames are those of some replica
use Rattle.std.proofs.Common.{◌≡◌, ◌++◌}
use Rattle.std.specs.Prelude.{map}
use Rattle.std.specs.Vec.Iter.{into_iter_items}
use Rattle.run_picture.specs.Incoming.{AreIncoming}
use Rattle.run_picture.specs.Sources.{arrival_of}
use Rattle.run_picture.proofs.sources.arrivals.Given as goal

abbrev pub invariant-loop-delivery : goal.invariant-loop-delivery
invariant-loop-delivery l =
    (l.yielded ++ into_iter_items l.delivery-iterator ≡ l.fn.deliveries.items) × (l.arrivals.items ≡ map (arrival_of l.sent) l.yielded)
    × AreIncoming l.sent l.numbers.numbers.items l.incoming.to l.incoming.frames.items
