-- The key pairs that remain as they are taken one by one, in ascending order of numbers.
use Rattle.std.proofs.Common.{◌≡◌, ℕ, suc, ◌+◌, ◌-◌, ◌<◌, List, ◌∷◌, length, map, sym, ap, ◌∙◌, arith}
use Rattle.std.specs.List.{range_with_len}
use Rattle.key_ring.specs.Signers.{SignerView}
use Rattle.cluster_setup.specs.declared.cluster_seed.ClusterSeed.{ClusterSeed}
use Rattle.cluster_setup.specs.Keys.{secret_of, unused, fresh_signers}

-- the key pairs of the replicas from a on
abbrev pub signers_from : ClusterSeed → ℕ → List SignerView
signers_from cluster a = map (λ r. unused (secret_of cluster r)) (range_with_len a (cluster.config.replicas - a))

-- none is taken yet
pub all_left : (cluster : ClusterSeed) → fresh_signers cluster ≡ signers_from cluster 0
all_left cluster =
    let size : cluster.config.replicas ≡ cluster.config.replicas - 0 = omega arith in
    ap (λ n. map (λ r. unused (secret_of cluster r)) (range_with_len 0 n)) size

first_left : (cluster : ClusterSeed) (a : ℕ) → a < cluster.config.replicas
    → signers_from cluster a ≡ unused (secret_of cluster a) ∷ signers_from cluster (a + 1)
first_left cluster a lt =
    let size : cluster.config.replicas - a ≡ suc (cluster.config.replicas - (a + 1)) = omega arith in
    ap (λ n. map (λ r. unused (secret_of cluster r)) (range_with_len a n)) size

-- one is left for each replica that is still to come
pub some_left : (cluster : ClusterSeed) (a : ℕ) (left : List SignerView) → a < cluster.config.replicas → left ≡ signers_from cluster a
    → 0 < length left
some_left cluster a left lt is = omega (arith, ap length (is ∙ first_left cluster a lt))

-- the one that is taken is that of the next replica, and those after it are left
pub one_taken : (cluster : ClusterSeed) (a : ℕ) (left : List SignerView) (x : SignerView) (rest : List SignerView)
    → a < cluster.config.replicas → left ≡ signers_from cluster a → left ≡ x ∷ rest
    → (x ≡ unused (secret_of cluster a)) × (rest ≡ signers_from cluster (a + 1))
one_taken cluster a left x rest lt is taken = let both = sym taken ∙ is ∙ first_left cluster a lt in (cc, cc)
