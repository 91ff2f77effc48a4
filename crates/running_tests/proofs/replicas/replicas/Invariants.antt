-- one replica for each number so far, and the key pairs of the others are left
use Rattle.std.proofs.Common.{◌≡◌, vec_len}
use Rattle.std.specs.Vec.Iter.{into_iter_items}
use Rattle.cluster_setup.proofs.SignersLeft.{signers_from}
use Rattle.running_tests.proofs.replicas.replicas.Given as goal

abbrev pub invariant-loop-id : goal.invariant-loop-id
invariant-loop-id g l = record {
  states : vec_len l.states ≡ l.id;
  signers : into_iter_items l.signers ≡ signers_from l.cluster l.id;
}
