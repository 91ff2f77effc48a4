-- the plans so far are signed
use Rattle.std.proofs.Common.{map}
use Rattle.std.specs.Vec.Iter.{into_iter_items}
use Rattle.replica_core.specs.Signing.{plan_spelled}
use Rattle.replica_core.proofs.SignedPlans.{IsSigning}
use Rattle.replica_core.proofs.signing.make_all.Given as goal

abbrev pub invariant-loop-spelled : goal.invariant-loop-spelled
invariant-loop-spelled l =
    IsSigning l.initial.signer l.fn.plans.items (map plan_spelled l.yielded) (map plan_spelled (into_iter_items l.spelled-iterator))
    l.closings.items l.signer
