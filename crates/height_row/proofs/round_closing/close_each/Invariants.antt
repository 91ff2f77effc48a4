-- the heights so far are closed, and what is left of the closings is that of the others
use Rattle.std.proofs.Common.{◌+◌}
use Rattle.std.specs.Vec.Iter.{into_iter_items}
use Rattle.height_row.proofs.Turns.{IsClosing}
use Rattle.height_row.proofs.round_closing.close_each.Given as goal

abbrev pub invariant-loop-slot : goal.invariant-loop-slot
invariant-loop-slot l = IsClosing (l.clock + 1) l.initial.slots l.fn.closings.items l.slots l.slot-index (into_iter_items l.closings)
