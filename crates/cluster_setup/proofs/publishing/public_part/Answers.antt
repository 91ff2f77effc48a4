use Rattle.std.proofs.Common.{◌∙◌, length, take, ap, subst, sym, ◌++◌, ◌∷◌, []}
use Rattle.std.specs.Prelude.{All}
use Rattle.std.specs.List.{range_with_len}
use Rattle.std.proofs.lemmas.List.FromFn.{length-map-range_with_len}
use Rattle.sha2.specs.Sha256.{sha256}
use Rattle.key_ring.specs.Signers.{public_key_of}
use Rattle.cluster_setup.specs.KeySizes.{HasSizes}
use Rattle.cluster_setup.specs.Keys.{secret_of}
use Rattle.cluster_setup.proofs.MadeRings.{sized-map}
use Rattle.cluster_setup.proofs.publishing.public_part.Goals as goal

pub invariant_of-result : goal.invariant_of-result
invariant_of-result c = record {
  counted = ap length c.in_ok-keys.ensures.ring
      ∙ length-map-range_with_len (λ r. public_key_of (secret_of c.args.cluster.now r)) 0 c.args.cluster.now.config.replicas;
  sized = subst (All (HasSizes c.args.cluster.now.params)) (sym c.in_ok-keys.ensures.ring)
      (sized-map c.args.cluster.now.params (λ r. take 16 (sha256 (c.args.cluster.now.seed ++ r ∷ 0 ∷ [])))
      (λ r. sha256 (c.args.cluster.now.seed ++ r ∷ 1 ∷ [])) (range_with_len 0 c.args.cluster.now.config.replicas));
}
