-- Which texts describe a cluster.
use Rattle.std.specs.Prelude.{◌≡◌, ℕ, List, map, codes, Some}
use Rattle.std.specs.List.{AllPass}
use Rattle.toml.specs.Data.{Data, string, array, Items, Members, get_member}
use Rattle.toml.specs.Parse.{parse_document}
use Rattle.ledger_model.specs.Numbers.{version_number}
use Rattle.lm_ots.specs.Parameters.{bits_of, levels_of}
use Rattle.lm_ots.specs.declared.params.Params.{Params}
use Rattle.cluster_files.specs.FileTables.{is_file_name, kind_word, number_data, spelled_keys, names_in}
use Rattle.cluster_setup.specs.declared.public_cluster.PublicCluster.{PublicCluster}

-- the table has this value under a name
abbrev pub HasValue : Members → List ℕ → Data → Type 0
HasValue table name value = get_member name table ≡ Some value

-- the table has this number under a name
abbrev pub HasNumber : Members → List ℕ → ℕ → Type 0
HasNumber table name n = HasValue table name (number_data n)

-- the table has the numbers of this parameter set
pub record HasParams (table : Members) (params : Params) : Type 0 where
  pub bits : HasNumber table (codes "bits") (bits_of params.width)
  pub levels : HasNumber table (codes "levels") (levels_of params.height)

-- The table is one of this cluster: it has the seven names with the cluster's values, in any spelling of the digits of a key, and no
-- other name.
pub record IsClusterTable (table : Members) (cluster : PublicCluster) : Type 0 where
  pub replicas : HasNumber table (codes "replicas") cluster.config.replicas
  pub faults : HasNumber table (codes "faults") cluster.config.faults
  pub kind : HasValue table (codes "kind") (string (kind_word cluster.config.kind))
  pub frames : HasNumber table (codes "frames") (version_number cluster.config.frames)
  pub params : HasParams table cluster.params
  pub items : Items
  pub has_keys : HasValue table (codes "keys") (array items)
  pub keys : spelled_keys items ≡ map Some cluster.ring
  pub only : AllPass is_file_name (names_in table)

-- the text describes the cluster: as TOML it is a table of it
pub record Describes (text : List ℕ) (cluster : PublicCluster) : Type 0 where
  pub table : Members
  pub parsed : parse_document text ≡ Some table
  pub says : IsClusterTable table cluster
