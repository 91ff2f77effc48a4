-- What `abft keys` writes.
use Rattle.std.specs.Prelude.{◌≡◌, ◌⊎◌, ℕ, List, [], Option, Result, MatchResult}
use Rattle.std.specs.Io.KnownBytes.{Appends}
use Rattle.byte_streams.specs.Writing.{AppendsSome}
use Rattle.cluster_setup.specs.KnownClusters.{IsPublicOf}
use Rattle.cluster_setup.specs.declared.cluster_seed.ClusterSeed.{ClusterSeed}
use Rattle.cluster_setup.specs.declared.public_cluster.PublicCluster.{PublicCluster}
use Rattle.cluster_files.specs.Descriptions.{Describes}
use Rattle.cluster_files.specs.FileTexts.{cluster_text}

-- the text is the public file of the cluster with this seed, in the spelling that is written; read as such a file, it is that cluster's
abbrev pub IsFileOf : ClusterSeed → List ℕ → Type 0
IsFileOf cluster text = (public : PublicCluster) × (IsPublicOf cluster public × (text ≡ cluster_text public) × Describes text public)

-- the program reads nothing, and prints the public file
abbrev pub PrintsFile : ClusterSeed → List ℕ → List ℕ → Type 0
PrintsFile cluster input text = (input ≡ []) × IsFileOf cluster text

-- the program reads nothing, and prints nothing, or a part of the public file
abbrev pub PrintsFileSome : ClusterSeed → List ℕ → List ℕ → Type 0
PrintsFileSome cluster input text = (input ≡ []) × ((text ≡ []) ⊎ IsFileOf cluster text)

-- the public file was written: all of it if there was no error, and otherwise nothing, or a prefix
abbrev pub WritesFile : {T E : Type 0} → ClusterSeed → Result T E → Option (List ℕ) → Option (List ℕ) → Type 0
WritesFile cluster result before after = MatchResult result
    (λ _. (text : List ℕ) × (IsFileOf cluster text × Appends before after text))
    (λ _. (text : List ℕ) × (((text ≡ []) ⊎ IsFileOf cluster text) × AppendsSome before after text))
