-- The names and values of a table's map, as the definitions see them.
use Rattle.std.proofs.Common.{◌≡◌, ◌∙◌, ℕ, true, List, [], ◌∷◌, map, Some, option_map, String, Global, Ordering, Less, Equal, Greater, Bor, string_bytes, refl, sym, ap, subst}
use Rattle.std.specs.List.{All, AllPass, Contains, slice_get}
use Rattle.std.specs.Map.{keys_of}
use Rattle.std.specs.Ordering.{match_ordering}
use Rattle.std.specs.String.{string_cmp}
use Rattle.std.specs.BTreeMap.{insert_entry}
use Rattle.std.proofs.lemmas.List.Elements.{All-map}
use Rattle.std.proofs.lemmas.Option.{get_or_from_slice_get, slice_get-map, slice_get_within}
use Rattle.toml.specs.Data.{member}
use Rattle.toml.specs.View.{members_view, view}
use Rattle.toml.specs.declared.value.Value.{Value}
use Rattle.toml.proofs.Views.{Entry}
use Rattle.cluster_files.specs.FileTables.{is_file_name, names_in, with_member}

names_in-view : (es : List Entry) → names_in (members_view es) ≡ map string_bytes (keys_of es)
names_in-view [] = refl
names_in-view (e ∷ es) = ap (λ names. string_bytes e.0 ∷ names) (names_in-view es)

-- the names of a map whose keys all pass
pub known_names : (es : List Entry) (xs : List (Bor (String Global))) → map (λ x. x.now) xs ≡ keys_of es
    → All (λ x. is_file_name (string_bytes x.now) ≡ true) xs → AllPass is_file_name (names_in (members_view es))
known_names es xs whole pass =
    subst (AllPass is_file_name) (sym (names_in-view es))
    (All-map (λ name. is_file_name name ≡ true) string_bytes (keys_of es)
    (subst (All (λ key. is_file_name (string_bytes key) ≡ true)) whole (All-map (λ key. is_file_name (string_bytes key) ≡ true) (λ x. x.now) xs pass)))

-- a key of the map is a name of the table
pub contained_name : (es : List Entry) (k : ℕ) (key : String Global) → slice_get (keys_of es) k ≡ Some key
    → Contains (names_in (members_view es)) (string_bytes key)
contained_name es k key at =
    let found : slice_get (names_in (members_view es)) k ≡ Some (string_bytes key) =
    ap (λ names. slice_get names k) (names_in-view es) ∙ slice_get-map string_bytes (keys_of es) k ∙ ap (option_map string_bytes) at in
    (k, slice_get_within _ k _ found, get_or_from_slice_get _ k _ _ found)

match_members : (o : Ordering) (a b c : List Entry) → members_view (match_ordering o a b c) ≡ match_ordering o (members_view a) (members_view b) (members_view c)
match_members Less a b c = refl
match_members Equal a b c = refl
match_members Greater a b c = refl

-- a value that is put into the map
pub with_member-view : (es : List Entry) (key : String Global) (v : Value)
    → members_view (insert_entry string_cmp es key v) ≡ with_member (string_bytes key) (view v) (members_view es)
with_member-view [] key v = refl
with_member-view (e ∷ es) key v = match_members (string_cmp key e.0) _ _ _ ∙ ap (λ rest. match_ordering (string_cmp key e.0) (members_view ((key, v) ∷ e ∷ es)) (members_view ((e.0, v) ∷ es)) (member (string_bytes e.0) (view e.1) rest)) (with_member-view es key v)
