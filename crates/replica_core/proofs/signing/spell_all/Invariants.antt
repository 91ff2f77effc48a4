-- those so far are spelled, and the others can be
use Rattle.std.proofs.Common.{◌≡◌, ◌++◌, map}
use Rattle.std.specs.Prelude.{IfSome}
use Rattle.std.specs.List.{AllByRecursion}
use Rattle.std.specs.Vec.Iter.{into_iter_items}
use Rattle.ledger_model.specs.Spelling.{IsStatement}
use Rattle.replica_core.specs.Signing.{plan_spelled}
use Rattle.replica_core.proofs.signing.spell_all.Given as goal

abbrev pub invariant-loop-plan : goal.invariant-loop-plan
invariant-loop-plan l =
    (map plan_spelled l.spelled.items ++ into_iter_items l.plan-iterator ≡ l.fn.plans.items)
    × AllByRecursion (λ plan. IfSome plan.statement IsStatement) (into_iter_items l.plan-iterator)
