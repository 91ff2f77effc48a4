-- as many are locked as were given and are not left
use Rattle.std.proofs.Common.{◌≡◌, ◌+◌, length, vec_len}
use Rattle.std.specs.Vec.Iter.{into_iter_items}
use Rattle.cluster_workers.proofs.running_cluster.lock_all.Given as goal

abbrev pub invariant-loop-state : goal.invariant-loop-state
invariant-loop-state g l = vec_len l.replicas + length (into_iter_items l.state-iterator) ≡ vec_len l.fn.states
