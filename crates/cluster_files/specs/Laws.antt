-- The law of the files of clusters.
use Rattle.std.specs.Prelude.{◌≡◌, ℕ, List}
use Rattle.cluster_files.specs.Descriptions.{Describes}
use Rattle.cluster_setup.specs.declared.public_cluster.PublicCluster.{PublicCluster}

-- a text describes at most one cluster
abbrev pub DescribesOne : Type 0
DescribesOne = (text : List ℕ) (a b : PublicCluster) → Describes text a → Describes text b → a ≡ b
