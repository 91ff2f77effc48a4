use Rattle.std.proofs.Common.{◌≡◌, ◌-◌, length, map}
use Rattle.std.specs.List.{range_with_len}
use Rattle.std.specs.Vec.Iter.{into_iter_items}
use Rattle.cluster_setup.specs.Keys.{secret_of}
use Rattle.cluster_setup.proofs.SignersLeft.{signers_from}
use Rattle.adversary_net.specs.Openings.{correct_from, new_party, IsSupply}
use Rattle.adversary_net.proofs.creation.parties_of.Given as goal

-- the parties so far, and the signers and what else there is for the others
abbrev pub invariant-loop-replica : goal.invariant-loop-replica
invariant-loop-replica g l = record {
  parties : l.parties.items ≡ map (new_party (g.A.Application.meaning) l.cluster.config l.ring (secret_of l.cluster) l.liars)
      (range_with_len 0 l.replica);
  signers : into_iter_items l.signers ≡ signers_from l.cluster l.replica;
  supply : IsSupply (g.A.Application.meaning) g.A.Application.machine l.cluster.config
      (length (correct_from l.liars l.replica (l.cluster.config.replicas - l.replica)))
      (into_iter_items l.supply.apps) (into_iter_items l.supply.randoms);
}
