-- nothing of the entries behind this one is kept
use Rattle.std.specs.Bool.{⊤}
use Rattle.cluster_service.proofs.deliveries.code_at.Given as goal

abbrev pub invariant-loop-index : goal.invariant-loop-index
invariant-loop-index g l = ⊤
