-- one budget for each replica so far
use Rattle.std.proofs.Common.{◌≡◌}
use Rattle.std.specs.Prelude.{replicate}
use Rattle.cluster_service.proofs.budgets.new_budgets.Given as goal

abbrev pub invariant-loop-replica : goal.invariant-loop-replica
invariant-loop-replica l = l.budgets.items ≡ replicate l._replica l.count
