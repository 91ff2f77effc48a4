-- the replicas so far, and the key pairs of the others are left
use Rattle.std.proofs.Common.{◌≡◌, map, vec_len}
use Rattle.std.specs.List.{range_with_len}
use Rattle.std.specs.Vec.Iter.{into_iter_items}
use Rattle.cluster_setup.proofs.SignersLeft.{signers_from}
use Rattle.cluster_service.specs.Replicas.{begun, submitted}
use Rattle.cluster_service.proofs.replicas.new_replicas.Given as goal

abbrev pub invariant-loop-id : goal.invariant-loop-id
invariant-loop-id g l = record {
  count : vec_len l.states ≡ l.id;
  states : l.states.items ≡ map (λ r. begun (g.A.Application.meaning) l.cluster (submitted (g.A.Application.meaning) l.cluster l.tx r) r) (range_with_len 0 l.id);
  signers : into_iter_items l.signers ≡ signers_from l.cluster l.id;
}
