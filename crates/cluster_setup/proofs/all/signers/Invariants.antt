-- the key pairs of the replicas so far
use Rattle.std.proofs.Common.{◌≡◌, map}
use Rattle.std.specs.List.{range_with_len}
use Rattle.cluster_setup.specs.Keys.{secret_of, unused}
use Rattle.cluster_setup.proofs.all.signers.Given as goal

abbrev pub invariant-loop-replica : goal.invariant-loop-replica
invariant-loop-replica l = l.signers.items ≡ map (λ r. unused (secret_of l.cluster r)) (range_with_len 0 l.replica)
