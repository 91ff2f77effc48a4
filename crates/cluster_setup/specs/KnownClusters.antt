-- What a reader of histories knows of their cluster.
use Rattle.std.specs.Prelude.{◌≡◌}
use Rattle.ledger_model.specs.declared.config.Config.{Config}
use Rattle.ledger_model.specs.Rules.{Ring}
use Rattle.cluster_setup.specs.Keys.{ring_of}
use Rattle.cluster_setup.specs.declared.cluster_seed.ClusterSeed.{ClusterSeed}
use Rattle.cluster_setup.specs.declared.public_cluster.PublicCluster.{PublicCluster}
use Rattle.cluster_setup.specs.declared.known_cluster.KnownCluster.{KnownCluster}
use Rattle.cluster_setup.specs.declared.known_cluster.KnownCluster.TheVariants.{BySeed, ByKeys}

-- this is what anyone may know of the cluster with this seed
pub record IsPublicOf (cluster : ClusterSeed) (public : PublicCluster) : Type 0 where
  pub config : public.config ≡ cluster.config
  pub params : public.params ≡ cluster.params
  pub ring : public.ring ≡ ring_of cluster

-- the configuration of a cluster
abbrev pub known_config : KnownCluster → Config
known_config (BySeed cluster) = cluster.config
known_config (ByKeys cluster) = cluster.config

-- the public keys of a cluster's replicas, by number
abbrev pub known_ring : KnownCluster → Ring
known_ring (BySeed cluster) = ring_of cluster
known_ring (ByKeys cluster) = cluster.ring
