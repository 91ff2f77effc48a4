-- those so far end as it was prepared, and make nothing
use Rattle.std.proofs.Common.{◌≡◌, ◌++◌, map}
use Rattle.std.specs.List.{AllByRecursion}
use Rattle.std.specs.Vec.Iter.{into_iter_items}
use Rattle.replica_core.specs.Signing.{nothing_made}
use Rattle.replica_core.proofs.closings.make_nothing.Given as goal

abbrev pub invariant-loop-ending : goal.invariant-loop-ending
invariant-loop-ending l =
    (map (λ c. c.ending) l.closings.items ++ into_iter_items l.ending-iterator ≡ l.fn.endings.items)
    × AllByRecursion (λ c. c.made ≡ nothing_made l.fn.mute) l.closings.items
