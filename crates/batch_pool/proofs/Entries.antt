-- The entries of the map: each transaction is stored under its bytes.
use Rattle.std.proofs.Common.{◌≡◌, ℕ, ◌<◌, ◌≤◌, Bool, true, false, cond, filter, List, [], ◌∷◌, ◌++◌, length, refl, sym, ap}
use Rattle.std.proofs.Common.{subst, ◌∙◌, Vec, Global, arith}
use Rattle.std.specs.Prelude.{◌||◌, Option, Some, None, is_some, Result, Ok, Err, OnOk, OnErr}
use Rattle.std.proofs.lemmas.List.{map-append, length-map, length-append}
use Rattle.indexmap.specs.IndexMap.{IndexMap, insert_entry}
use Rattle.indexmap.proofs.CallerLemmas.{insert_entry-new}
use Rattle.std.specs.List.{list_any, IsDistinct, AllByRecursion}
use Rattle.std.specs.Map.{keys_of, values_of, lookup}
use Rattle.std.specs.Map.Calls.{RetainsPairs}
use Rattle.ledger_model.specs.Values.{same_bytes}
use Rattle.ledger_model.specs.Limits.{max_pool_len}
use Rattle.batch_pool.specs.Keyed.{PoolEntry, AreKeyed}

-- the transactions that are kept
abbrev pub txs_of : List PoolEntry → List (List ℕ)
txs_of es = values_of es

-- a transaction is found by its bytes
pub found-among : (es : List PoolEntry) (tx : List ℕ) → AreKeyed es
    → is_some (lookup (λ (k : Vec ℕ Global). same_bytes tx k.items) es) ≡ list_any (same_bytes tx) (txs_of es)
found-among [] tx keyed = refl
found-among (e ∷ es) tx keyed = rw (keyed.0) (by (same_bytes tx e.1) (found-among es tx (keyed.1)))
  where
    by : (b : Bool) → is_some (lookup (λ (k : Vec ℕ Global). same_bytes tx k.items) es) ≡ list_any (same_bytes tx) (txs_of es)
        → is_some (cond b (Some e.1) (lookup (λ (k : Vec ℕ Global). same_bytes tx k.items) es))
        ≡ (b || list_any (same_bytes tx) (txs_of es))
    by true rest = refl
    by false rest = rest

-- what is not among them is not found
pub absent : (es : List PoolEntry) (key : Vec ℕ Global) (tx : List ℕ) → AreKeyed es → key.items ≡ tx
    → list_any (same_bytes tx) (txs_of es) ≡ false → lookup (λ (k : Vec ℕ Global). same_bytes key.items k.items) es ≡ None
absent es key tx keyed same fresh =
    rw same (none_of (lookup (λ (k : Vec ℕ Global). same_bytes tx k.items) es) (found-among es tx keyed ∙ fresh))
  where
    none_of : (o : Option (List ℕ)) → is_some o ≡ false → o ≡ None
    none_of None is = refl
    none_of (Some x) is = absurd (cc)

-- nothing is kept twice
differ : (k : List ℕ) (es : List PoolEntry) → AreKeyed es
    → AllByRecursion (λ (x : Vec ℕ Global). same_bytes k x.items ≡ false) (keys_of es)
    → AllByRecursion (λ (x : List ℕ). same_bytes k x ≡ false) (txs_of es)
differ k [] keyed all = all
differ k (e ∷ es) keyed all = (rw (← keyed.0) (all.0), differ k es (keyed.1) (all.1))

pub none_twice : (es : List PoolEntry) → AreKeyed es → IsDistinct (λ (x y : Vec ℕ Global). same_bytes x.items y.items) (keys_of es)
    → IsDistinct same_bytes (txs_of es)
unfolding IsDistinct
none_twice [] keyed distinct = tt
none_twice (e ∷ es) keyed distinct = (rw (← keyed.0) (differ e.0.items es (keyed.1) (distinct.0)), none_twice es (keyed.1) (distinct.1))

-- one entry more
pub keyed-push : (es : List PoolEntry) (e : PoolEntry) → AreKeyed es → e.0.items ≡ e.1 → AreKeyed (es ++ e ∷ [])
keyed-push [] e keyed same = (same, tt)
keyed-push (x ∷ es) e keyed same = (keyed.0, keyed-push es e (keyed.1) same)

-- a test of transactions filters the entries
pub filter-txs : (test : List ℕ → Bool) (es : List PoolEntry) → txs_of (filter (λ (e : PoolEntry). test e.1) es) ≡ filter test (txs_of es)
filter-txs test [] = refl
filter-txs test (e ∷ es) = by (test e.1) (filter-txs test es)
  where
    by : (b : Bool) → txs_of (filter (λ (x : PoolEntry). test x.1) es) ≡ filter test (txs_of es)
        → txs_of (cond b (e ∷ filter (λ (x : PoolEntry). test x.1) es) (filter (λ (x : PoolEntry). test x.1) es))
        ≡ cond b (e.1 ∷ filter test (txs_of es)) (filter test (txs_of es))
    by true rest = ap (λ (txs : List (List ℕ)). e.1 ∷ txs) rest
    by false rest = rest

-- what `retain` leaves is kept under its bytes, where the closure leaves each transaction as it was
module _ {F : Type 0} (T : F → Vec ℕ Global → List ℕ → Bool → List ℕ → F → Type 0)
    (says : (f : F) (k : Vec ℕ Global) (v : List ℕ) (b : Bool) (w : List ℕ) (g : F) → T f k v b w g → w ≡ v) where
  pub keyed-retained : (f : F) (es kept : List PoolEntry) → RetainsPairs T f es kept → AreKeyed es → AreKeyed kept
  keyed-retained f [] kept h keyed = rw h tt
  keyed-retained f (e ∷ es) kept h keyed =
      let rest = keyed-retained h.2 es h.3 h.5 (keyed.1) in
      subst AreKeyed (sym h.6) (by h.1 h.3 h.0 (keyed.0 ∙ sym (says f e.0 e.1 h.0 h.1 h.2 h.4)) rest)
    where
      by : (w : List ℕ) (others : List PoolEntry) (b : Bool) → e.0.items ≡ w → AreKeyed others
          → AreKeyed (cond b ((e.0, w) ∷ others) others)
      by w others true same keyed_others = (same, keyed_others)
      by w others false same keyed_others = keyed_others

-- ---- one transaction more in the map

-- two keys are equal where their bytes are
abbrev pub same_key : Vec ℕ Global → Vec ℕ Global → Bool
same_key x y = same_bytes x.items y.items

module _ {S : Type 0} (m : IndexMap (Vec ℕ Global) (List ℕ) S) (key : Vec ℕ Global) (tx : List ℕ) (keyed : AreKeyed m.entries)
    (same : key.items ≡ tx)
    (fresh : list_any (same_bytes tx) (txs_of m.entries) ≡ false) where
  pub pushed : insert_entry same_key m.entries key tx ≡ m.entries ++ (key, tx) ∷ []
  pushed = insert_entry-new same_key m key tx (absent m.entries key tx keyed same fresh)

  pub txs-pushed : (new : List PoolEntry) → new ≡ insert_entry same_key m.entries key tx → txs_of new ≡ txs_of m.entries ++ tx ∷ []
  txs-pushed new is = ap txs_of (is ∙ pushed) ∙ map-append (λ (e : PoolEntry). e.1) m.entries ((key, tx) ∷ [])

  pub kept_after : {X Y : Type 0} (r : Result X Y) (new : List PoolEntry) → length m.entries < max_pool_len
      → OnOk r (new ≡ insert_entry same_key m.entries key tx) → OnErr r (new ≡ m.entries)
      → (length new ≤ max_pool_len) × AreKeyed new
  kept_after (Ok x) new room ok err =
      rw (ok ∙ pushed) (omega (arith, length-append m.entries ((key, tx) ∷ [])), keyed-push m.entries (key, tx) keyed same)
  kept_after (Err y) new room ok err = rw err (omega arith, keyed)

pub length-txs : (es : List PoolEntry) → length (txs_of es) ≡ length es
length-txs es = length-map es (λ (e : PoolEntry). e.1)
