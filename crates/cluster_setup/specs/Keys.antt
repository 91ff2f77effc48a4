-- The key pairs of the replicas, derived from the cluster's seed.
use Rattle.std.specs.Prelude.{ℕ, List, [], ◌∷◌, ◌++◌, take, map}
use Rattle.std.specs.List.{range_with_len}
use Rattle.sha2.specs.Sha256.{sha256}
use Rattle.ledger_model.specs.declared.config.Config.{Config}
use Rattle.ledger_model.specs.Rules.{Ring}
use Rattle.lms_tree.specs.Trees.{Secret}
use Rattle.key_ring.specs.Signers.{SignerView, public_key_of}
use Rattle.cluster_setup.specs.declared.cluster_seed.ClusterSeed.{ClusterSeed}

-- the secret of a replica
abbrev pub secret_of : ClusterSeed → ℕ → Secret
secret_of cluster r = record {
  params = cluster.params;
  identifier = take 16 (sha256 (cluster.seed ++ r ∷ 0 ∷ []));
  seed = sha256 (cluster.seed ++ r ∷ 1 ∷ []);
}

-- the key pair of a secret, with no leaf used
abbrev pub unused : Secret → SignerView
unused secret = record { secret = secret; used = 0 }

-- the key pairs of the replicas, by number, with no leaf used
abbrev pub fresh_signers : ClusterSeed → List SignerView
fresh_signers cluster = map (λ r. unused (secret_of cluster r)) (range_with_len 0 cluster.config.replicas)

-- the public keys of replicas that have these secrets, by number
abbrev pub ring_with : Config → (ℕ → Secret) → Ring
ring_with config secrets = map (λ r. public_key_of (secrets r)) (range_with_len 0 config.replicas)

-- the public keys of the replicas, by number
abbrev pub ring_of : ClusterSeed → Ring
ring_of cluster = ring_with cluster.config (secret_of cluster)
