use Rattle.std.proofs.Common.{sym, ap, ◌∙◌, rules}
use Rattle.std.specs.Prelude.{Some, slice_get}
use Rattle.key_ring.specs.Signers.{SignerView, public_key_of}
use Rattle.cluster_setup.specs.Keys.{secret_of}
use Rattle.cluster_setup.proofs.RingLemmas.{key_in_ring}
use Rattle.replica_turns.proofs.replica.new_replica.Goals as goal

pub new-requires-clause-member : goal.new-requires-clause-member
new-requires-clause-member g c = record {
  below = c.requires.below;
  own = ap (λ ring. slice_get ring c.args.id) (c.in_ok-copy.ensures ∙ c.requires.ring)
      ∙ key_in_ring c.args.cluster.now.config (secret_of c.args.cluster.now) c.args.id c.requires.below
      ∙ ap (λ (k : SignerView). Some (public_key_of k.secret)) (sym c.requires.signer);
}

pub returns : goal.returns
returns g c = search rules
