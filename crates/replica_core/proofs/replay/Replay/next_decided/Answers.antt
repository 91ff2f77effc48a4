use Rattle.std.proofs.Common.{◌≡◌, ◌<◌, ◌+◌, ◌≤◌, subst, refl, length, arith, rules}
use Rattle.std.specs.Prelude.{Option, Some, None}
use Rattle.std.specs.Option.{IfSome}
use Rattle.ledger_model.specs.Limits.{max_height}
use Rattle.ledger_model.specs.Values.{Value}
use Rattle.instance.specs.Instances.{InstanceView}
use Rattle.height_row.specs.Heights.{row_at, decided_in}
use Rattle.replica_core.specs.Replays.{ReplayView}
use Rattle.replica_core.specs.Steps.{next_decided}
use Rattle.replica_core.proofs.replay.Replay.next_decided.Goals as goal

-- src/executing.rt:15:5
pub returns-clause-low : goal.returns-clause-low
returns-clause-low g c =
    subst (λ (x : ReplayView). IfSome (next_decided x) (λ _. length x.commits < max_height)) c.self.view_is
    (low (row_at c.self.inside.rows.rows (length c.self.inside.committed.items + 1)) (λ row at. let own =
    c.decided_at.ensures.own (length c.self.inside.committed.items + 1) row at in own.3))
  where
    low : (o : Option InstanceView) → ((row : InstanceView) → o ≡ Some row → length c.self.inside.committed.items + 1 ≤ max_height)
        → IfSome (decided_in o) (λ _. length c.self.inside.committed.items < max_height)
    low None bound = tt
    low (Some row) bound = of (row.decided) (bound row refl)
      where
        of : (v : Option Value) → length c.self.inside.committed.items + 1 ≤ max_height
            → IfSome v (λ _. length c.self.inside.committed.items < max_height)
        of None le = tt
        of (Some v) le = omega (arith, le)

pub returns-clause-decided : goal.returns-clause-decided
returns-clause-decided g c = search rules
