-- The table of a cluster, as TOML data: its names, and the value of each.
use Rattle.std.specs.Prelude.{ℕ, pos, Bool, List, [], ◌∷◌, codes, Option, option_and_then}
use Rattle.std.specs.List.{list_any}
use Rattle.std.specs.Result.{result_ok}
use Rattle.std.specs.Cmp.Lexicographic.{slice_cmp}
use Rattle.std.specs.Ordering.{match_ordering, nat_cmp}
use Rattle.std.specs.Str.{bytes_eq}
use Rattle.hex.specs.Hex.{decode_sized, encode_lower}
use Rattle.toml.specs.Data.{Data, string, integer, array, Items, no_items, item, Members, no_members, member, as_str}
use Rattle.ledger_model.specs.declared.config.AppKind.{AppKind}
use Rattle.ledger_model.specs.declared.config.AppKind.TheVariants.{Own, KvStore, Counter, Purse}
use Rattle.ledger_model.specs.Numbers.{version_number}
use Rattle.ledger_model.specs.Rules.{Ring}
use Rattle.lm_ots.specs.Parameters.{bits_of, levels_of}
use Rattle.cluster_setup.specs.declared.public_cluster.PublicCluster.{PublicCluster}

-- the names in a cluster's file, in the order in which they are written
abbrev pub file_names : List (List ℕ)
file_names = codes "bits" ∷ codes "faults" ∷ codes "frames" ∷ codes "keys" ∷ codes "kind" ∷ codes "levels" ∷ codes "replicas" ∷ []

-- the name is one of them
abbrev pub is_file_name : List ℕ → Bool
is_file_name name = list_any (λ n. bytes_eq name n) file_names

-- the word for an application
abbrev pub kind_word : AppKind → List ℕ
kind_word Own = codes "own"
kind_word KvStore = codes "kvstore"
kind_word Counter = codes "counter"
kind_word Purse = codes "purse"

-- a number as data
abbrev pub number_data : ℕ → Data
number_data n = integer (pos n)

-- the public keys as data: an array of strings, each the hexadecimal digits of a key, in lower case
abbrev pub keys_data : Ring → Items
keys_data [] = no_items
keys_data (key ∷ ring) = item (string (encode_lower key)) (keys_data ring)

-- the table of a cluster
abbrev pub cluster_table : PublicCluster → Members
cluster_table cluster =
    member (codes "bits") (number_data (bits_of cluster.params.width))
    (member (codes "faults") (number_data cluster.config.faults)
    (member (codes "frames") (number_data (version_number cluster.config.frames))
    (member (codes "keys") (array (keys_data cluster.ring))
    (member (codes "kind") (string (kind_word cluster.config.kind))
    (member (codes "levels") (number_data (levels_of cluster.params.height))
    (member (codes "replicas") (number_data cluster.config.replicas) no_members))))))

-- the table with a value under a name, at the name's place in the alphabetical order
abbrev pub with_member : List ℕ → Data → Members → Members
with_member name value no_members = member name value no_members
with_member name value (member other held table) =
    match_ordering (slice_cmp nat_cmp name other) (member name value (member other held table)) (member other value table)
    (member other held (with_member name value table))

-- the key that a value spells: a string of 112 hexadecimal digits, in either case, spells 56 bytes
abbrev pub spelled_key : Data → Option (List ℕ)
spelled_key value = option_and_then (λ digits. result_ok (decode_sized digits 56)) (as_str value)

-- the keys that the values of an array spell
abbrev pub spelled_keys : Items → List (Option (List ℕ))
spelled_keys no_items = []
spelled_keys (item value items) = spelled_key value ∷ spelled_keys items

-- the names in a table
abbrev pub names_in : Members → List (List ℕ)
names_in no_members = []
names_in (member name value table) = name ∷ names_in table
