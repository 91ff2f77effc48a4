-- what the heights so far prepare
use Rattle.std.proofs.Common.{◌≡◌, ◌+◌, map, take}
use Rattle.tally.specs.Tallies.{all_read}
use Rattle.instance.specs.Plans.{opened_effects}
use Rattle.height_row.proofs.round_closing.prepare_each.Given as goal

abbrev pub invariant-loop-slot : goal.invariant-loop-slot
invariant-loop-slot l = l.endings.items ≡ map (λ row. opened_effects row (l.clock + 1)) (all_read (take l.slot-index l.slots))
