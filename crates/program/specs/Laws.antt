-- The law of the public file of a cluster.
use Rattle.std.specs.Prelude.{ℕ, List}
use Rattle.cluster_files.specs.Descriptions.{Describes}
use Rattle.cluster_setup.specs.KnownClusters.{IsPublicOf}
use Rattle.cluster_setup.specs.declared.cluster_seed.ClusterSeed.{ClusterSeed}
use Rattle.cluster_setup.specs.declared.public_cluster.PublicCluster.{PublicCluster}
use Rattle.program.specs.Publishing.{IsFileOf}

-- whatever cluster the public file of a seed describes has the configuration, the parameter set and the public keys of that seed
abbrev pub ReadsBack : Type 0
ReadsBack = (seed : ClusterSeed) (text : List ℕ) (public : PublicCluster) → IsFileOf seed text → Describes text public → IsPublicOf seed public
