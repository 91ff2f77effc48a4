-- the keys so far are those of the first replicas
use Rattle.std.proofs.Common.{◌≡◌, map}
use Rattle.std.specs.List.{range_with_len}
use Rattle.key_ring.specs.Signers.{public_key_of}
use Rattle.cluster_setup.specs.Keys.{secret_of}
use Rattle.cluster_setup.proofs.keys.ring.Given as goal

abbrev pub invariant-loop-replica : goal.invariant-loop-replica
invariant-loop-replica l = l.keys.items ≡ map (λ r. public_key_of (secret_of l.cluster r)) (range_with_len 0 l.replica)
