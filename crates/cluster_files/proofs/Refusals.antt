-- A text of which a fault is true describes no cluster.
use Rattle.std.proofs.Common.{◌≡◌, ◌∙◌, ℕ, Bool, true, false, ◌||◌, List, length, codes, Option, Some, None, Result, Ok, Err, option_map, refl, sym, ap, subst, inl, inr, arith}
use Rattle.std.specs.Prelude.{IfErr, IfOk, IsSome, MatchResult}
use Rattle.std.specs.List.{slice_get}
use Rattle.std.specs.Str.{bytes_eq}
use Rattle.std.proofs.lemmas.Bool.{cases_Bool, false≢true}
use Rattle.std.proofs.lemmas.List.{length-map}
use Rattle.std.proofs.lemmas.List.Elements.{All-contains}
use Rattle.std.proofs.lemmas.Option.{get_or_from_slice_get, none-some, same_Some, slice_get-map, slice_get_within}
use Rattle.std.proofs.lemmas.Slice.Eq.{bytes_eq-Decides}
use Rattle.ledger_model.specs.Numbers.{version_number}
use Rattle.ledger_model.specs.declared.version.Version.{Version}
use Rattle.ledger_model.specs.declared.version.Version.TheVariants.{One, Two}
use Rattle.lm_ots.specs.declared.params.TreeHeight.{TreeHeight}
use Rattle.lm_ots.specs.declared.params.TreeHeight.TheVariants.{H5, H10}
use Rattle.lm_ots.specs.declared.params.Width.{Width}
use Rattle.lm_ots.specs.declared.params.Width.TheVariants.{W4, W8}
use Rattle.lm_ots.specs.Parameters.{bits_of, levels_of}
use Rattle.toml.specs.Data.{Items, Members, get_member}
use Rattle.toml.specs.Parse.{parse_document}
use Rattle.cluster_setup.specs.KeySizes.{HasSizes}
use Rattle.cluster_files.specs.FileTables.{is_file_name, spelled_keys}
use Rattle.cluster_files.specs.Descriptions.{Describes, HasNumber, IsClusterTable}
use Rattle.cluster_files.specs.FileFaults.{HasNeither, IsOutOfRange, IsRightOfParsed, IsRightOfTable, IsRightOfText, TakesEitherOf, TakesRange}
use Rattle.cluster_setup.specs.declared.public_cluster.PublicCluster.{PublicCluster}
use Rattle.cluster_files.specs.declared.fault.ClusterFileFault.{ClusterFileFault}
use Rattle.cluster_files.specs.declared.fault.ClusterFileFault.TheVariants as fault
use Rattle.cluster_files.proofs.SameClusters.{one_array, one_cluster, one_number, one_params}

not_none : (o : Option (List ℕ)) → option_map Some o ≡ Some None → ⊥
not_none None e = none-some _ e
not_none (Some key) e = none-some key (sym (same_Some _ _ e))

some_inside : (o : Option (List ℕ)) (key : List ℕ) → option_map Some o ≡ Some (Some key) → o ≡ Some key
some_inside None key e = absurd (none-some _ e)
some_inside (Some k) key e = same_Some _ _ e

module _ (table : Members) (cluster : PublicCluster) (of : IsClusterTable table cluster) where
  -- a name that is missing is not this one, whose value is there, and so it is among the rest
  there : (name other : List ℕ) (rest : Bool) → get_member name table ≡ None → IsSome (get_member other table) → (rest ≡ true → ⊥)
      → bytes_eq name other || rest ≡ true → ⊥
  there name other rest none some not_rest is =
      elim (cases_Bool (bytes_eq name other)) [
        | inl same ↦
            let e : name ≡ other = (bytes_eq-Decides name other).0 same in
            let bad : IsSome (get_member name table) = subst (λ n. IsSome (get_member n table)) (sym e) some in
            false≢true (rw none at bad)
        | inr differs ↦ not_rest (rw differs at is)
      ]

  -- no name of a cluster's file is missing
  pub none_missing : (name : List ℕ) → get_member name table ≡ None → is_file_name name ≡ true → ⊥
  none_missing name none =
      there name (codes "bits") _ none (rw of.params.bits refl)
      (there name (codes "faults") _ none (rw of.faults refl)
      (there name (codes "frames") _ none (rw of.frames refl)
      (there name (codes "keys") _ none (rw of.has_keys refl)
      (there name (codes "kind") _ none (rw of.kind refl)
      (there name (codes "levels") _ none (rw of.params.levels refl)
      (there name (codes "replicas") false none (rw of.replicas refl) false≢true))))))

  -- the numbers of a cluster are in their ranges
  in_range : (name : List ℕ) (least most : ℕ) → TakesRange name least most → IsOutOfRange table name least most → ⊥
  in_range name least most (inl (is, low, high)) (some, out) =
      out cluster.config.replicas (subst (λ n. HasNumber table n cluster.config.replicas) (sym is) of.replicas)
      (omega (arith, cluster.config.enough, cluster.config.tolerant)) (omega (arith, cluster.config.bounded))
  in_range name least most (inr (is, low, high)) (some, out) =
      out cluster.config.faults (subst (λ n. HasNumber table n cluster.config.faults) (sym is) of.faults)
      (omega (arith, cluster.config.tolerant)) (omega (arith, cluster.config.enough, cluster.config.bounded))

  version_among : (v : Version) (name : List ℕ) → HasNumber table name (version_number v) → HasNeither table name 1 2 → ⊥
  version_among One name has (some, (first, second)) = first has
  version_among Two name has (some, (first, second)) = second has

  width_among : (w : Width) (name : List ℕ) → HasNumber table name (bits_of w) → HasNeither table name 4 8 → ⊥
  width_among W4 name has (some, (first, second)) = first has
  width_among W8 name has (some, (first, second)) = second has

  height_among : (h : TreeHeight) (name : List ℕ) → HasNumber table name (levels_of h) → HasNeither table name 5 10 → ⊥
  height_among H5 name has (some, (first, second)) = first has
  height_among H10 name has (some, (first, second)) = second has

  has_either : (name : List ℕ) (one other : ℕ) → TakesEitherOf name one other → HasNeither table name one other → ⊥
  has_either name one other (inl (is, low, high)) neither =
      version_among cluster.config.frames (codes "frames") of.frames (rw (is, low, high) at neither)
  has_either name one other (inr (inl (is, low, high))) neither =
      width_among cluster.params.width (codes "bits") of.params.bits (rw (is, low, high) at neither)
  has_either name one other (inr (inr (is, low, high))) neither =
      height_among cluster.params.height (codes "levels") of.params.levels (rw (is, low, high) at neither)

  -- what the array of keys has for a replica
  key_at : (items : Items) (replica : ℕ) → of.items ≡ items → slice_get (spelled_keys items) replica ≡ option_map Some (slice_get cluster.ring replica)
  key_at items replica same =
      ap (λ xs. slice_get xs replica) (ap spelled_keys (sym same) ∙ of.keys) ∙ slice_get-map Some cluster.ring replica

  -- no fault of a table of a cluster is true, but that memory ran out
  pub none_right : (f : ClusterFileFault) → IsRightOfTable table f → f ≡ fault.NoMemory
  none_right (fault.NotToml line) right = absurd right
  none_right (fault.UnknownName name) (contains, unknown) =
      absurd (false≢true (sym unknown ∙ All-contains (λ n. is_file_name n ≡ true) _ _ of.only contains))
  none_right (fault.Missing name) (known, missing) = absurd (none_missing name.now missing known)
  none_right (fault.Number name least most) (takes, out) = absurd (in_range name.now least most takes out)
  none_right (fault.Neither name one other) (takes, neither) = absurd (has_either name.now one other takes neither)
  none_right fault.Kind (some, none) = absurd (none cluster.config.kind of.kind)
  none_right (fault.TooFew replicas faults) right =
      let same_replicas = one_number table (codes "replicas") _ _ of.replicas right.has_replicas in
      let same_faults = one_number table (codes "faults") _ _ of.faults right.has_faults in
      absurd (omega (arith, cluster.config.enough, right.few, same_replicas, same_faults))
  none_right fault.NoArray (some, none) = absurd (none-some of.items (sym (rw of.has_keys at none)))
  none_right (fault.KeyCount keys replicas) right =
      let same_replicas = one_number table (codes "replicas") _ _ of.replicas right.has_replicas in
      let same_items = one_array table (codes "keys") of.items right.items of.has_keys right.has_keys in
      absurd (right.other (sym right.counted ∙ ap (λ items. length (spelled_keys items)) (sym same_items) ∙ ap length of.keys ∙ length-map cluster.ring Some
      ∙ cluster.counted ∙ same_replicas))
  none_right (fault.NoKey replica) right =
      let same_items = one_array table (codes "keys") of.items right.items of.has_keys right.has_keys in
      absurd (not_none _ (sym (key_at right.items replica same_items) ∙ right.spells_none))
  none_right (fault.OtherSizes replica) right =
      let same_items = one_array table (codes "keys") of.items right.items of.has_keys right.has_keys in
      let same_params = one_params table cluster.params right.params of.params right.has_params in
      let at = some_inside (slice_get cluster.ring replica) right.key (sym (key_at right.items replica same_items) ∙ right.spells) in
      let sized = cluster.sized replica right.key (slice_get_within cluster.ring replica right.key at) in
      absurd (right.other (subst (λ p. HasSizes p right.key) same_params
      (subst (HasSizes cluster.params) (get_or_from_slice_get cluster.ring replica right.key right.key at) sized)))
  none_right fault.NoMemory right = refl

-- what the reader of a table answers, if the table is one of a cluster
pub only_cluster : (table : Members) (cluster : PublicCluster) (r : Result PublicCluster ClusterFileFault) → IsClusterTable table cluster
    → IfOk r (IsClusterTable table) → IfErr r (IsRightOfTable table) → MatchResult r (λ read. read ≡ cluster) (λ f. f ≡ fault.NoMemory)
only_cluster table cluster (Ok read) of ok right = one_cluster table read cluster ok of
only_cluster table cluster (Err f) of ok right = none_right table cluster of f right

-- the table of a text that describes a cluster
pub table_of : (text : List ℕ) (table : Members) (cluster : PublicCluster) → parse_document text ≡ Some table → Describes text cluster → IsClusterTable table cluster
table_of text table cluster parsed described = subst (λ t. IsClusterTable t cluster) (same_Some _ _ (sym described.parsed ∙ parsed)) described.says

parsed_right : (text : List ℕ) (cluster : PublicCluster) (f : ClusterFileFault) → IsRightOfParsed text f → Describes text cluster → f ≡ fault.NoMemory
parsed_right text cluster f right described = none_right right.table cluster (table_of text right.table cluster right.parsed described) f right.right

-- a fault that is true of a text that describes a cluster
pub only_memory : (text : List ℕ) (cluster : PublicCluster) (f : ClusterFileFault) → IsRightOfText text f → Describes text cluster → f ≡ fault.NoMemory
only_memory text cluster (fault.NotToml line) right described = absurd (none-some _ (sym right.0 ∙ described.parsed))
only_memory text cluster fault.NoMemory right described = refl
only_memory text cluster f right described = parsed_right text cluster f right described
