-- the plans of the heights so far
use Rattle.std.proofs.Common.{◌≡◌, ◌+◌, map, take}
use Rattle.std.specs.Prelude.{IfSome}
use Rattle.std.specs.List.{AllByRecursion}
use Rattle.ledger_model.specs.Spelling.{IsStatement}
use Rattle.tally.specs.Tallies.{all_read}
use Rattle.height_row.specs.Heights.{height_plan}
use Rattle.height_row.proofs.round_closing.plan_each.Given as goal

abbrev pub invariant-loop-slot : goal.invariant-loop-slot
invariant-loop-slot l =
    (l.plans.items ≡ map (height_plan (l.clock + 1)) (all_read (take l.slot-index l.slots)))
    × AllByRecursion (λ plan. IfSome plan.statement IsStatement) l.plans.items
