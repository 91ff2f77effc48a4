-- the slots are as they were, but for empty ones at the end
use Rattle.std.proofs.Common.{◌≡◌, ◌+◌, ◌-◌, ℕ, vec_len}
use Rattle.tally.specs.Tallies.{all_read, read_of}
use Rattle.height_row.proofs.slots.make_room.Given as goal

abbrev pub decreases-loop-slots : goal.decreases-loop-slots
decreases-loop-slots l = l.place + 1 - vec_len l.slots

abbrev pub invariant-loop-slots : goal.invariant-loop-slots
invariant-loop-slots l =
    (all_read l.slots.items ≡ all_read l.fn.slots.items) × ((i : ℕ) → read_of l.slots.items i ≡ read_of l.fn.slots.items i)
