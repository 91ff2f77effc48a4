-- The text that is written for a cluster.
use Rattle.std.specs.Prelude.{ℕ, List, [], ◌∷◌, ◌++◌, codes, decimal}
use Rattle.std.specs.List.{flat_map}
use Rattle.hex.specs.Hex.{encode_lower}
use Rattle.ledger_model.specs.Numbers.{version_number}
use Rattle.ledger_model.specs.Rules.{Ring}
use Rattle.lm_ots.specs.Parameters.{bits_of, levels_of}
use Rattle.cluster_files.specs.FileTables.{kind_word}
use Rattle.cluster_setup.specs.declared.public_cluster.PublicCluster.{PublicCluster}

-- a line: a name and its value
abbrev pub name_line : List ℕ → List ℕ → List ℕ
name_line name value = name ++ (codes " = " ++ (value ++ codes "\n"))

-- a text in quotes
abbrev pub in_quotes : List ℕ → List ℕ
in_quotes text = codes "\"" ++ (text ++ codes "\"")

-- the keys, each on a line of its own: four spaces, its hexadecimal digits in quotes, in lower case, and a comma
abbrev pub key_lines : Ring → List ℕ
key_lines [] = codes "\n]"
key_lines (key ∷ ring) = codes "\n    " ++ (in_quotes (encode_lower key) ++ (codes "," ++ key_lines ring))

-- the lines of the file: its names in alphabetical order
abbrev pub file_lines : PublicCluster → List (List ℕ)
file_lines cluster =
    name_line (codes "bits") (decimal (bits_of cluster.params.width))
    ∷ name_line (codes "faults") (decimal cluster.config.faults)
    ∷ name_line (codes "frames") (decimal (version_number cluster.config.frames))
    ∷ name_line (codes "keys") (codes "[" ++ key_lines cluster.ring)
    ∷ name_line (codes "kind") (in_quotes (kind_word cluster.config.kind))
    ∷ name_line (codes "levels") (decimal (levels_of cluster.params.height))
    ∷ name_line (codes "replicas") (decimal cluster.config.replicas)
    ∷ []

-- the file
unfoldable pub cluster_text : PublicCluster → List ℕ
cluster_text cluster = flat_map (λ line. line) (file_lines cluster)
