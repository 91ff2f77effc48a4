-- The faults of texts that describe no cluster: each says what is true of the text.
use Rattle.std.specs.Prelude.{◌≡◌, ◌≢◌, ◌⊎◌, ℕ, ◌+◌, ◌*◌, ◌<◌, ◌≤◌, ◌==◌, ⊤, false, true, List, length, take, codes, count_by, slice_get, Contains, Some, None, IsSome, option_and_then, string_bytes}
use Rattle.toml.specs.Data.{Data, string, array, Items, Members, get_member, as_array}
use Rattle.toml.specs.Parse.{parse_document}
use Rattle.ledger_model.specs.declared.config.AppKind.{AppKind}
use Rattle.lm_ots.specs.declared.params.Params.{Params}
use Rattle.cluster_setup.specs.KeySizes.{HasSizes}
use Rattle.cluster_files.specs.FileTables.{is_file_name, kind_word, spelled_key, spelled_keys, names_in}
use Rattle.cluster_files.specs.Descriptions.{HasNumber, HasParams, HasValue}
use Rattle.cluster_files.specs.declared.fault.ClusterFileFault.{ClusterFileFault}
use Rattle.cluster_files.specs.declared.fault.ClusterFileFault.TheVariants as fault

-- the line, from 1 on, at some place of the text: one more than the line feeds before it
abbrev pub IsLineOf : List ℕ → ℕ → Type 0
IsLineOf text line = (place : ℕ) × ((place ≤ length text) × (line ≡ count_by (λ byte. byte == 10) (take place text) + 1))

-- the numbers that a name takes: those of a range
abbrev pub TakesRange : List ℕ → ℕ → ℕ → Type 0
TakesRange name least most =
    ((name ≡ codes "replicas") × (least ≡ 4) × (most ≡ 13)) ⊎ ((name ≡ codes "faults") × (least ≡ 1) × (most ≡ 4))

-- the numbers that a name takes: one or the other
abbrev pub TakesEitherOf : List ℕ → ℕ → ℕ → Type 0
TakesEitherOf name one other =
    ((name ≡ codes "frames") × (one ≡ 1) × (other ≡ 2))
    ⊎ (((name ≡ codes "bits") × (one ≡ 4) × (other ≡ 8)) ⊎ ((name ≡ codes "levels") × (one ≡ 5) × (other ≡ 10)))

-- the table has a value under the name, but no number of the range
abbrev pub IsOutOfRange : Members → List ℕ → ℕ → ℕ → Type 0
IsOutOfRange table name least most =
    IsSome (get_member name table) × ((n : ℕ) → HasNumber table name n → least ≤ n → n ≤ most → ⊥)

-- the table has a value under the name, but neither number
abbrev pub HasNeither : Members → List ℕ → ℕ → ℕ → Type 0
HasNeither table name one other =
    IsSome (get_member name table) × ((HasNumber table name one → ⊥) × (HasNumber table name other → ⊥))

-- the table has a kind, but not the word for an application
abbrev pub HasNoKind : Members → Type 0
HasNoKind table =
    IsSome (get_member (codes "kind") table) × ((kind : AppKind) → HasValue table (codes "kind") (string (kind_word kind)) → ⊥)

-- the table has these numbers of replicas and faults, and there are too few replicas
pub record HasTooFew (table : Members) (replicas faults : ℕ) : Type 0 where
  pub has_replicas : HasNumber table (codes "replicas") replicas
  pub has_faults : HasNumber table (codes "faults") faults
  pub few : replicas < 3 * faults + 1

-- the table has this number of keys, which is not its number of replicas
pub record HasKeyCount (table : Members) (keys replicas : ℕ) : Type 0 where
  pub items : Items
  pub has_keys : HasValue table (codes "keys") (array items)
  pub counted : length (spelled_keys items) ≡ keys
  pub has_replicas : HasNumber table (codes "replicas") replicas
  pub other : keys ≢ replicas

-- the value that the table has for this replica spells no key
pub record HasNoKey (table : Members) (replica : ℕ) : Type 0 where
  pub items : Items
  pub has_keys : HasValue table (codes "keys") (array items)
  pub spells_none : slice_get (spelled_keys items) replica ≡ Some None

-- the value that the table has for this replica spells a key of other sizes than the table has
pub record HasOtherSizes (table : Members) (replica : ℕ) : Type 0 where
  pub items : Items
  pub has_keys : HasValue table (codes "keys") (array items)
  pub key : List ℕ
  pub spells : slice_get (spelled_keys items) replica ≡ Some (Some key)
  pub params : Params
  pub has_params : HasParams table params
  pub other : HasSizes params key → ⊥

-- the fault is true of the table
abbrev pub IsRightOfTable : Members → ClusterFileFault → Type 0
IsRightOfTable table (fault.NotToml line) = ⊥
IsRightOfTable table (fault.UnknownName name) = Contains (names_in table) (string_bytes name) × (is_file_name (string_bytes name) ≡ false)
IsRightOfTable table (fault.Missing name) = (is_file_name name.now ≡ true) × (get_member name.now table ≡ None)
IsRightOfTable table (fault.Number name least most) = TakesRange name.now least most × IsOutOfRange table name.now least most
IsRightOfTable table (fault.Neither name one other) = TakesEitherOf name.now one other × HasNeither table name.now one other
IsRightOfTable table fault.Kind = HasNoKind table
IsRightOfTable table (fault.TooFew replicas faults) = HasTooFew table replicas faults
IsRightOfTable table fault.NoArray = IsSome (get_member (codes "keys") table) × (option_and_then as_array (get_member (codes "keys") table) ≡ None)
IsRightOfTable table (fault.KeyCount keys replicas) = HasKeyCount table keys replicas
IsRightOfTable table (fault.NoKey replica) = HasNoKey table replica
IsRightOfTable table (fault.OtherSizes replica) = HasOtherSizes table replica
IsRightOfTable table fault.NoMemory = ⊤

-- the fault is true of the text as a table
pub record IsRightOfParsed (text : List ℕ) (f : ClusterFileFault) : Type 0 where
  pub table : Members
  pub parsed : parse_document text ≡ Some table
  pub right : IsRightOfTable table f

-- the fault is true of the text
abbrev pub IsRightOfText : List ℕ → ClusterFileFault → Type 0
IsRightOfText text (fault.NotToml line) = (parse_document text ≡ None) × IsLineOf text line
IsRightOfText text fault.NoMemory = ⊤
IsRightOfText text f = IsRightOfParsed text f

-- the fault is true of one value of `keys`, for a replica in a cluster with this parameter set
abbrev pub IsRightOfItem : Params → ℕ → Data → ClusterFileFault → Type 0
IsRightOfItem params replica value (fault.NoKey r) = (r ≡ replica) × (spelled_key value ≡ None)
IsRightOfItem params replica value (fault.OtherSizes r) =
    (r ≡ replica) × ((key : List ℕ) × ((spelled_key value ≡ Some key) × (HasSizes params key → ⊥)))
IsRightOfItem params replica value f = ⊥
