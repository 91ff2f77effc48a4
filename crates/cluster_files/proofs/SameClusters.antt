-- A table is one of at most one cluster.
use Rattle.std.proofs.Common.{◌≡◌, ◌∙◌, ℕ, ◌+◌, ◌*◌, ◌≤◌, pos, List, [], ◌∷◌, length, map, slice_index, codes, Some, refl, sym, ap, arith}
use Rattle.std.specs.List.{All, filter_map}
use Rattle.std.proofs.Props.{props}
use mathlib.Core.HLevel.{is_prop→PathP}
use Rattle.ledger_model.specs.declared.config.AppKind.{AppKind}
use Rattle.ledger_model.specs.declared.config.AppKind.TheVariants.{Own, KvStore, Counter, Purse}
use Rattle.ledger_model.specs.declared.config.Config.{Config}
use Rattle.ledger_model.specs.declared.version.Version.{Version}
use Rattle.ledger_model.specs.declared.version.Version.TheVariants.{One, Two}
use Rattle.ledger_model.specs.Numbers.{version_number}
use Rattle.lm_ots.specs.declared.params.Params.{Params}
use Rattle.lm_ots.specs.declared.params.TreeHeight.{TreeHeight}
use Rattle.lm_ots.specs.declared.params.TreeHeight.TheVariants.{H5, H10}
use Rattle.lm_ots.specs.declared.params.Width.{Width}
use Rattle.lm_ots.specs.declared.params.Width.TheVariants.{W4, W8}
use Rattle.lm_ots.specs.Parameters.{bits_of, levels_of}
use Rattle.toml.specs.Data.{Items, Members, array, integer, string}
use Rattle.cluster_setup.specs.KeySizes.{HasSizes}
use Rattle.cluster_files.specs.FileTables.{spelled_keys, kind_word}
use Rattle.cluster_files.specs.Descriptions.{HasNumber, HasParams, HasValue, IsClusterTable}
use Rattle.cluster_setup.specs.declared.public_cluster.PublicCluster.{PublicCluster}

pub one_number : (table : Members) (name : List ℕ) (n m : ℕ) → HasNumber table name n → HasNumber table name m → n ≡ m
one_number table name n m h k = let e : Some (integer (pos n)) ≡ Some (integer (pos m)) = sym h ∙ k in cc

one_text : (table : Members) (name s t : List ℕ) → HasValue table name (string s) → HasValue table name (string t) → s ≡ t
one_text table name s t h k = let e : Some (string s) ≡ Some (string t) = sym h ∙ k in cc

pub one_array : (table : Members) (name : List ℕ) (a b : Items) → HasValue table name (array a) → HasValue table name (array b) → a ≡ b
one_array table name a b h k = let e : Some (array a) ≡ Some (array b) = sym h ∙ k in cc

-- words with different first letters
different : {X : Type 0} (s t : List ℕ) (a b : ℕ) → slice_index s 0 ≡ a → slice_index t 0 ≡ b → (a ≡ b → ⊥) → s ≡ t → X
different s t a b is_a is_b other same = absurd (other (sym is_a ∙ ap (λ word. slice_index word 0) same ∙ is_b))

one_kind : (a b : AppKind) → kind_word a ≡ kind_word b → a ≡ b
one_kind Own Own same = refl
one_kind KvStore KvStore same = refl
one_kind Counter Counter same = refl
one_kind Purse Purse same = refl
one_kind Own KvStore same = different (codes "own") (codes "kvstore") 111 107 refl refl (λ e. omega arith) same
one_kind Own Counter same = different (codes "own") (codes "counter") 111 99 refl refl (λ e. omega arith) same
one_kind Own Purse same = different (codes "own") (codes "purse") 111 112 refl refl (λ e. omega arith) same
one_kind KvStore Own same = different (codes "kvstore") (codes "own") 107 111 refl refl (λ e. omega arith) same
one_kind KvStore Counter same = different (codes "kvstore") (codes "counter") 107 99 refl refl (λ e. omega arith) same
one_kind KvStore Purse same = different (codes "kvstore") (codes "purse") 107 112 refl refl (λ e. omega arith) same
one_kind Counter Own same = different (codes "counter") (codes "own") 99 111 refl refl (λ e. omega arith) same
one_kind Counter KvStore same = different (codes "counter") (codes "kvstore") 99 107 refl refl (λ e. omega arith) same
one_kind Counter Purse same = different (codes "counter") (codes "purse") 99 112 refl refl (λ e. omega arith) same
one_kind Purse Own same = different (codes "purse") (codes "own") 112 111 refl refl (λ e. omega arith) same
one_kind Purse KvStore same = different (codes "purse") (codes "kvstore") 112 107 refl refl (λ e. omega arith) same
one_kind Purse Counter same = different (codes "purse") (codes "counter") 112 99 refl refl (λ e. omega arith) same

one_version : (a b : Version) → version_number a ≡ version_number b → a ≡ b
one_version One One same = refl
one_version Two Two same = refl
one_version One Two same = absurd (omega arith)
one_version Two One same = absurd (omega arith)

one_width : (a b : Width) → bits_of a ≡ bits_of b → a ≡ b
one_width W4 W4 same = refl
one_width W8 W8 same = refl
one_width W4 W8 same = absurd (omega arith)
one_width W8 W4 same = absurd (omega arith)

one_height : (a b : TreeHeight) → levels_of a ≡ levels_of b → a ≡ b
one_height H5 H5 same = refl
one_height H10 H10 same = refl
one_height H5 H10 same = absurd (omega arith)
one_height H10 H5 same = absurd (omega arith)

-- a table has at most one parameter set
pub one_params : (table : Members) (p q : Params) → HasParams table p → HasParams table q → p ≡ q
one_params table p q h k =
    let width = one_width p.width q.width (one_number table (codes "bits") _ _ h.bits k.bits) in
    let height = one_height p.height q.height (one_number table (codes "levels") _ _ h.levels k.levels) in
    λ i. record { width = width i; height = height i }

filter_map-Some : {X : Type 0} (xs : List X) → filter_map (λ o. o) (map Some xs) ≡ xs
filter_map-Some [] = refl
filter_map-Some (x ∷ xs) = ap (λ ys. x ∷ ys) (filter_map-Some xs)

one_ring : (a b : List (List ℕ)) → map Some a ≡ map Some b → a ≡ b
one_ring a b same = sym (filter_map-Some a) ∙ ap (filter_map (λ o. o)) same ∙ filter_map-Some b

-- configurations with the same parts
same_config : (a b : Config) → a.replicas ≡ b.replicas → a.faults ≡ b.faults → a.kind ≡ b.kind → a.frames ≡ b.frames → a ≡ b
same_config a b replicas faults kind frames = λ i. record {
  replicas = replicas i;
  faults = faults i;
  kind = kind i;
  frames = frames i;
  enough = is_prop→PathP (λ j. 3 * faults j + 1 ≤ replicas j) (λ j. hlevel props) a.enough b.enough i;
  bounded = is_prop→PathP (λ j. replicas j ≤ 13) (λ j. hlevel props) a.bounded b.bounded i;
  tolerant = is_prop→PathP (λ j. 1 ≤ faults j) (λ j. hlevel props) a.tolerant b.tolerant i;
}

-- clusters with the same parts
same_cluster : (a b : PublicCluster) → a.config ≡ b.config → a.params ≡ b.params → a.ring ≡ b.ring → a ≡ b
same_cluster a b config params ring = λ i. record {
  config = config i;
  params = params i;
  ring = ring i;
  counted = is_prop→PathP (λ j. length (ring j) ≡ (config j).replicas) (λ j. hlevel props) a.counted b.counted i;
  sized = is_prop→PathP (λ j. All (HasSizes (params j)) (ring j)) (λ j. hlevel props) a.sized b.sized i;
}

-- a table is one of at most one cluster
pub one_cluster : (table : Members) (a b : PublicCluster) → IsClusterTable table a → IsClusterTable table b → a ≡ b
one_cluster table a b h k =
    let replicas = one_number table (codes "replicas") _ _ h.replicas k.replicas in
    let faults = one_number table (codes "faults") _ _ h.faults k.faults in
    let kind = one_kind a.config.kind b.config.kind (one_text table (codes "kind") _ _ h.kind k.kind) in
    let frames = one_version a.config.frames b.config.frames (one_number table (codes "frames") _ _ h.frames k.frames) in
    let items = one_array table (codes "keys") h.items k.items h.has_keys k.has_keys in
    same_cluster a b (same_config a.config b.config replicas faults kind frames) (one_params table a.params b.params h.params k.params)
    (one_ring a.ring b.ring (sym h.keys ∙ ap spelled_keys items ∙ k.keys))
