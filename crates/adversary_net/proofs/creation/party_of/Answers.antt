use Rattle.std.proofs.Common.{◌≡◌, false, [], sym, ap, ◌∙◌}
use Rattle.std.specs.Prelude.{Some, slice_get}
use Rattle.ledger_model.specs.Applications.{run}
use Rattle.key_ring.specs.Signers.{SignerView, public_key_of}
use Rattle.cluster_setup.specs.Keys.{secret_of}
use Rattle.cluster_setup.proofs.RingLemmas.{key_in_ring}
use Rattle.adversary_net.specs.declared.party.Party.TheVariants as party
use Rattle.adversary_net.specs.Openings.{is_liar}
use Rattle.adversary_net.proofs.creation.party_of.Goals as goal

pub correct_replica-requires-clause-member : goal.correct_replica-requires-clause-member
correct_replica-requires-clause-member g c = record {
  below = c.requires.below;
  own = ap (λ ring. slice_get ring c.args.id) c.requires.ring
      ∙ key_in_ring c.args.cluster.now.config (secret_of c.args.cluster.now) c.args.id c.requires.below
      ∙ ap (λ (k : SignerView). Some (public_key_of k.secret)) (sym c.requires.signer);
}

pub returns-clause-party : goal.returns-clause-party
returns-clause-party g c =
    let honest : is_liar c.args.liars.now c.args.id ≡ false = sym c.is_among.ensures ∙ c.if-is_among.false in
    rw honest (ap party.Correct (c.in_ok-replica.ensures.replica
    ∙ ap (λ (k : SignerView). record {
      config = c.args.cluster.now.config;
      id = c.args.id;
      ring = c.args.ring.now;
      secret =
          k.secret;
      used = k.used;
      entries = [];
      machine = run (g.A.Application.meaning) c.args.cluster.now.config.kind [];
    }) c.requires.signer))
