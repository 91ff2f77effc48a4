-- The table that is written for a cluster.
use Rattle.std.proofs.Common.{◌≡◌, ℕ, ◌≤◌, true, List, [], ◌∷◌, map, Some, refl, arith}
use Rattle.std.proofs.lemmas.List.Elements.{All-from_recursion}
use Rattle.toml.specs.Data.{items_depth, items_have_valid_dates, members_depth, members_have_valid_dates}
use Rattle.cluster_files.specs.FileTables.{cluster_table, file_names, is_file_name, keys_data, spelled_keys}
use Rattle.cluster_files.specs.Descriptions.{IsClusterTable}
use Rattle.cluster_setup.specs.declared.public_cluster.PublicCluster.{PublicCluster}

-- it is a table of the cluster
pub table_says : (cluster : PublicCluster) → spelled_keys (keys_data cluster.ring) ≡ map Some cluster.ring → IsClusterTable (cluster_table cluster) cluster
table_says cluster spells = record {
  replicas = refl;
  faults = refl;
  kind = refl;
  frames = refl;
  params = record { bits = refl; levels = refl };
  items = keys_data cluster.ring;
  has_keys = refl;
  keys = spells;
  only = All-from_recursion (λ name. is_file_name name ≡ true) file_names (refl, (refl, (refl, (refl, (refl, (refl, (refl, tt)))))));
}

items_depth-keys_data : (ring : List (List ℕ)) → items_depth (keys_data ring) ≡ 0
items_depth-keys_data [] = refl
items_depth-keys_data (key ∷ ring) = rw (items_depth-keys_data ring) refl

-- no deeper than TOML's reader reads
pub shallow : (cluster : PublicCluster) → members_depth (cluster_table cluster) ≤ 80
shallow cluster = rw (items_depth-keys_data cluster.ring) (omega arith)

dateless : (ring : List (List ℕ)) → items_have_valid_dates (keys_data ring) ≡ true
dateless [] = refl
dateless (key ∷ ring) = dateless ring

-- it has no date
pub valid_dates : (cluster : PublicCluster) → members_have_valid_dates (cluster_table cluster) ≡ true
valid_dates cluster = rw (dateless cluster.ring) refl
