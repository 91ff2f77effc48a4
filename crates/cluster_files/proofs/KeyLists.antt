-- Arrays of public keys: their keys one by one, and as they are written.
use Rattle.std.proofs.Common.{◌≡◌, ◌∙◌, ℕ, ◌<◌, suc, List, [], ◌∷◌, ◌++◌, ◌+◌, get_or, length, map, take, option_map, Some, refl, sym, ap}
use Rattle.std.proofs.lemmas.List.{map-append, take_more}
use Rattle.std.proofs.lemmas.Option.{get_or_from_slice_get, slice_get-map, slice_get_read, slice_get_within}
use Rattle.toml.proofs.Views.{items_view-push}
use Rattle.std.specs.List.{All, slice_get}
use Rattle.std.proofs.lemmas.List.Elements.{All-head, All-tail}
use Rattle.cluster_files.specs.KeyBytes.{Is56Bytes}
use Rattle.hex.specs.Hex.{encode_lower, IsBytes}
use Rattle.hex.proofs.HexLemmas.{decode_sized-encode_lower}
use Rattle.toml.specs.Data.{Data, string, array, Items, item, push_item, as_array, boolean, datetime, float, integer, table}
use Rattle.toml.specs.View.{items_view, view}
use Rattle.toml.specs.declared.value.Value.{Value}
use Rattle.cluster_files.specs.FileTables.{spelled_key, keys_data, spelled_keys}

pub spelled_keys-view : (vs : List Value) → spelled_keys (items_view vs) ≡ map (λ v. spelled_key (view v)) vs
spelled_keys-view [] = refl
spelled_keys-view (v ∷ vs) = ap (λ keys. spelled_key (view v) ∷ keys) (spelled_keys-view vs)

pub length-spelled_keys : (vs : List Value) → length (spelled_keys (items_view vs)) ≡ length vs
length-spelled_keys [] = refl
length-spelled_keys (v ∷ vs) = ap suc (length-spelled_keys vs)

pub keys_data-push : (ring : List (List ℕ)) (key : List ℕ) → keys_data (ring ++ key ∷ []) ≡ push_item (keys_data ring) (string (encode_lower key))
keys_data-push [] key = refl
keys_data-push (k ∷ ring) key = ap (item (string (encode_lower k))) (keys_data-push ring key)

-- the key that the value at a place spells
pub spelled_keys-at : (items : List Value) (i : ℕ) (v : Value) → i < length items → v ≡ get_or items i v
    → slice_get (spelled_keys (items_view items)) i ≡ Some (spelled_key (view v))
spelled_keys-at items i v inside is =
    ap (λ keys. slice_get keys i) (spelled_keys-view items) ∙ slice_get-map (λ v. spelled_key (view v)) items i
    ∙ ap (option_map (λ v. spelled_key (view v))) (slice_get_read items (length items) i v refl inside is)

-- the keys so far, with the next one
pub spelled_keys-append : (items : List Value) (keys : List (List ℕ)) (i : ℕ) (v : Value) (key : List ℕ) → i < length items → v ≡ get_or items i v
    → map Some keys ≡ take i (map (λ v. spelled_key (view v)) items) → spelled_key (view v) ≡ Some key
    → map Some (keys ++ key ∷ []) ≡ take (i + 1) (map (λ v. spelled_key (view v)) items)
spelled_keys-append items keys i v key inside is so_far spells =
    let all = map (λ v. spelled_key (view v)) items in
    let at : slice_get all i ≡ Some (Some key) =
    slice_get-map (λ v. spelled_key (view v)) items i ∙ ap (option_map (λ v. spelled_key (view v))) (slice_get_read items (length items) i v refl inside is)
    ∙ ap Some spells in
    map-append Some keys (key ∷ []) ∙ ap (λ xs. xs ++ Some key ∷ []) so_far
    ∙ sym (take_more all i (Some key) (slice_get_within all i _ at) ∙ ap (λ x. take i all ++ x ∷ []) (get_or_from_slice_get all i (Some key) (Some key) at))

-- a value that is seen as an array
pub array_from : (d : Data) (items : Items) → as_array d ≡ Some items → d ≡ array items
array_from (array ds) items h = ap array cc
array_from (string s) items h = absurd cc
array_from (integer z) items h = absurd cc
array_from (float x) items h = absurd cc
array_from (boolean b) items h = absurd cc
array_from (datetime t) items h = absurd cc
array_from (table ms) items h = absurd cc

-- the digits that are written for a key decode to it
pub spelled_key-encode_lower : (key : List ℕ) → length key ≡ 56 → IsBytes key → spelled_key (string (encode_lower key)) ≡ Some key
spelled_key-encode_lower key len bytes = rw (decode_sized-encode_lower key 56 len bytes) refl

pub take-next : (ring : List (List ℕ)) (i : ℕ) (key : List ℕ) → Some key ≡ slice_get ring i → take (i + 1) ring ≡ take i ring ++ key ∷ []
take-next ring i key at =
    take_more ring i key (slice_get_within ring i key (sym at))
    ∙ ap (λ x. take i ring ++ x ∷ []) (get_or_from_slice_get ring i key key (sym at))

-- the keys of the first replicas as written, with the next one
pub keys_data-more : (values : List Value) (ring : List (List ℕ)) (i : ℕ) (v : Value) (key : List ℕ) → Some key ≡ slice_get ring i
    → items_view values ≡ keys_data (take i ring) → view v ≡ string (encode_lower key)
    → items_view (values ++ v ∷ []) ≡ keys_data (take (i + 1) ring)
keys_data-more values ring i v key at so_far value =
    items_view-push values v ∙ ap (λ items. push_item items (view v)) so_far ∙ ap (push_item (keys_data (take i ring))) value
    ∙ sym (keys_data-push (take i ring) key) ∙ ap keys_data (sym (take-next ring i key at))

-- what the keys spell as they are written
pub spelled_keys-keys_data : (ring : List (List ℕ)) → All Is56Bytes ring → spelled_keys (keys_data ring) ≡ map Some ring
spelled_keys-keys_data [] each = refl
spelled_keys-keys_data (key ∷ ring) each =
    let first = All-head Is56Bytes key ring each in
    ap (λ k. k ∷ spelled_keys (keys_data ring)) (spelled_key-encode_lower key first.counted first.bytes)
    ∙ ap (λ keys. Some key ∷ keys) (spelled_keys-keys_data ring (All-tail Is56Bytes key ring each))
