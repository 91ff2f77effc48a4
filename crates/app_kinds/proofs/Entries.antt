-- The entries of a map of byte vectors, as pairs of byte lists.
use Rattle.std.proofs.Common.{◌≡◌, Bool, true, false, cond, ℕ, ◌≤◌, List, [], ◌∷◌, ◌++◌, length, Option, Some, None, Vec, Global, Bor, refl}
use Rattle.std.proofs.Common.{sym, ap, ◌∙◌, append_assoc, append-nil}
use Rattle.std.proofs.lemmas.List.{length-map}
use Rattle.std.specs.Int.{w64, to_be_bytes}
use Rattle.std.specs.declared.cmp.Ordering.{Ordering}
use Rattle.std.specs.declared.cmp.Ordering.TheVariants.{Less, Equal, Greater}
use Rattle.std.specs.Ordering.{nat_cmp, match_ordering, is_eq}
use Rattle.std.specs.Cmp.Lexicographic.{slice_cmp, texts_ties}
use Rattle.std.specs.Option.{option_map, option_copied}
use Rattle.std.specs.List.{AllZip, AllByRecursion, flat_map}
use Rattle.std.specs.List.Sorted.{IsStrictlySortedBy}
use Rattle.std.specs.Map.{keys_of, lookup}
use Rattle.std.specs.BTreeMap.{insert_entry}
use Rattle.std.specs.Vec.{vec_len}
use Rattle.sha2.specs.Hashers.{Holds256}
use Rattle.sha2.specs.declared.Sha256.{Sha256}
use Rattle.ledger_model.specs.Values.{same_bytes}
use Rattle.ledger_model.specs.Kinds.{store_bytes}
use Rattle.ledger_model.specs.Limits.{max_tx_len}
use Rattle.app_kinds.specs.Sorted.{Pair, pair_bytes, FitTransactions}

abbrev pub Entry : Type 0
Entry = Vec ℕ Global × Vec ℕ Global

abbrev pub byte_cmp : List ℕ → List ℕ → Ordering
byte_cmp = slice_cmp nat_cmp

abbrev pub vec_cmp : Vec ℕ Global → Vec ℕ Global → Ordering
vec_cmp v w = byte_cmp v.items w.items

pub shown-insert_entry : (es : List Entry) (k v : Vec ℕ Global)
    → pair_bytes (insert_entry vec_cmp es k v) ≡ insert_entry byte_cmp (pair_bytes es) k.items v.items
shown-insert_entry [] k v = refl
shown-insert_entry (e ∷ es) k v = by (vec_cmp k e.0) (shown-insert_entry es k v)
  where
    by : (o : Ordering) → pair_bytes (insert_entry vec_cmp es k v) ≡ insert_entry byte_cmp (pair_bytes es) k.items v.items
        → pair_bytes (match_ordering o ((k, v) ∷ e ∷ es) ((e.0, v) ∷ es) (e ∷ insert_entry vec_cmp es k v))
        ≡ match_ordering o ((k.items, v.items) ∷ pair_bytes (e ∷ es)) ((e.0.items, v.items) ∷ pair_bytes es)
        ((e.0.items, e.1.items) ∷ insert_entry byte_cmp (pair_bytes es) k.items v.items)
    by Less rest = refl
    by Equal rest = refl
    by Greater rest = ap (λ ps. (e.0.items, e.1.items) ∷ ps) rest

items_of-cond : (b : Bool) (v : Vec ℕ Global) (r : Option (Vec ℕ Global))
    → option_map (λ (w : Vec ℕ Global). w.items) (cond b (Some v) r) ≡ cond b (Some v.items) (option_map (λ (w : Vec ℕ Global). w.items) r)
items_of-cond true v r = refl
items_of-cond false v r = refl

pub lookup-shown : (key : List ℕ) (es : List Entry)
    → option_map (λ (v : Vec ℕ Global). v.items) (lookup (λ (k : Vec ℕ Global). is_eq (byte_cmp key k.items)) es)
    ≡ lookup (same_bytes key) (pair_bytes es)
lookup-shown key [] = refl
lookup-shown key (e ∷ es) =
    let rest = lookup (λ (k : Vec ℕ Global). is_eq (byte_cmp key k.items)) es in
    items_of-cond (is_eq (byte_cmp key e.0.items)) e.1 rest
    ∙ ap (λ b. cond b (Some e.1.items) (option_map (λ (w : Vec ℕ Global). w.items) rest)) (sym (texts_ties key e.0.items))
    ∙ ap (λ r. cond (same_bytes key e.0.items) (Some e.1.items) r) (lookup-shown key es)

pub items_of-found : (r : Option (Bor (Vec ℕ Global)))
    → option_map (λ (v : Bor (Vec ℕ Global)). v.now.items) r ≡ option_map (λ (v : Vec ℕ Global). v.items) (option_copied r)
items_of-found None = refl
items_of-found (Some v) = refl

abbrev pub SameItems : Vec ℕ Global → Vec ℕ Global → Type 0
SameItems v w = AllZip (λ x y. y ≡ x) v.items w.items × (vec_len w ≡ vec_len v)

clones_same : (xs ys : List ℕ) → AllZip (λ x y. y ≡ x) xs ys → ys ≡ xs
clones_same [] [] same = refl
clones_same [] (y ∷ ys) same = absurd same
clones_same (x ∷ xs) [] same = absurd same
clones_same (x ∷ xs) (y ∷ ys) same = let rest = clones_same xs ys same.1 in let first = same.0 in cc

pub shown-clones : (es fs : List Entry) → AllZip (λ (p : Entry) (q : Entry). SameItems p.0 q.0 × SameItems p.1 q.1) es fs
    → pair_bytes fs ≡ pair_bytes es
shown-clones [] [] same = refl
shown-clones [] (f ∷ fs) same = absurd same
shown-clones (e ∷ es) [] same = absurd same
shown-clones (e ∷ es) (f ∷ fs) same =
    let key = clones_same e.0.items f.0.items same.0.0.0 in
    let value = clones_same e.1.items f.1.items same.0.1.0 in
    let rest = shown-clones es fs same.1 in
    cc

all-shown : (k : Vec ℕ Global) (es : List Entry) → AllByRecursion (λ (w : Vec ℕ Global). vec_cmp k w ≡ Less) (keys_of es)
    → AllByRecursion (λ q. byte_cmp k.items q ≡ Less) (keys_of (pair_bytes es))
all-shown k [] below = tt
all-shown k (e ∷ es) below = (below.0, all-shown k es below.1)

pub sorted-shown : (es : List Entry) → IsStrictlySortedBy vec_cmp (keys_of es) → IsStrictlySortedBy byte_cmp (keys_of (pair_bytes es))
unfolding IsStrictlySortedBy
sorted-shown [] sorted = tt
sorted-shown (e ∷ es) sorted = (all-shown e.0 es sorted.0, sorted-shown es sorted.1)

pub AreShort-insert_entry : (ps : List Pair) (k v : List ℕ) → FitTransactions ps → length k ≤ max_tx_len → length v ≤ max_tx_len
    → FitTransactions (insert_entry byte_cmp ps k v)
AreShort-insert_entry [] k v short kept kept' = (kept, kept', tt)
AreShort-insert_entry (p ∷ ps) k v short key value = by (byte_cmp k p.0) (AreShort-insert_entry ps k v short.2 key value)
  where
    by : (o : Ordering) → FitTransactions (insert_entry byte_cmp ps k v)
        → FitTransactions (match_ordering o ((k, v) ∷ p ∷ ps) ((p.0, v) ∷ ps) (p ∷ insert_entry byte_cmp ps k v))
    by Less rest = (key, value, short)
    by Equal rest = (short.0, value, short.2)
    by Greater rest = (short.0, short.1, rest)

abbrev pub pairs_bytes : List Pair → List ℕ
pairs_bytes ps = flat_map (λ p. (length p.0 ∷ p.0) ++ (length p.1 ∷ p.1)) ps

-- what is hashed so far, and the pairs that are left, make the encoding of all
pub record Feeds (hasher : Sha256) (left all : List Pair) : Type 0 where
  pub so_far : List ℕ
  pub holds : Holds256 hasher so_far
  pub ends : so_far ++ pairs_bytes left ≡ store_bytes all

pub feeds-begin : (h : Sha256) (all : List Pair) (count : List ℕ) → Holds256 h (1 ∷ count) → count ≡ to_be_bytes w64 (length all)
    → Feeds h all all
unfolding store_bytes
feeds-begin h all count holds e = record {
  so_far = 1 ∷ count;
  holds = holds;
  ends = ap (λ bs. (1 ∷ bs) ++ pairs_bytes all) e;
}

pub feeds-more : (old mid new : Sha256) (k v : List ℕ) (rest all : List Pair) → Feeds old ((k, v) ∷ rest) all
    → ((m : List ℕ) → Holds256 old m → Holds256 mid (m ++ length k ∷ k))
    → ((m : List ℕ) → Holds256 mid m → Holds256 new (m ++ length v ∷ v)) → Feeds new rest all
feeds-more old mid new k v rest all before key value = record {
  so_far = (before.so_far ++ length k ∷ k) ++ length v ∷ v;
  holds = value (before.so_far ++ length k ∷ k) (key before.so_far before.holds);
  ends = simp append_assoc (simp append_assoc at before.ends);
}

pub feeds-end : (h : Sha256) (all : List Pair) → Feeds h [] all → Holds256 h (store_bytes all)
feeds-end h all fed =
    let e : fed.so_far ≡ store_bytes all = sym (append-nil fed.so_far) ∙ fed.ends in
    rw (← e) fed.holds

pub short-next : (left : List Entry) (e : Entry) (rest : List Entry) → left ≡ e ∷ rest → FitTransactions (pair_bytes left)
    → (length e.0.items ≤ max_tx_len) × (length e.1.items ≤ max_tx_len) × FitTransactions (pair_bytes rest)
short-next left e rest is short = rw is at short

pub length-shown : (es : List Entry) → length (pair_bytes es) ≡ length es
length-shown es = length-map es (λ e. (e.0.items, e.1.items))
