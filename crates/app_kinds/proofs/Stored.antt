-- The pairs of a store after one more transaction, and their values.
use Rattle.std.proofs.Common.{◌≡◌, ℕ, Bool, true, false, cond, ◌||◌, List, [], ◌∷◌, ◌++◌, map, Option, Some, None, refl, sym, ap, ◌∙◌}
use Rattle.std.proofs.Common.{subst}
use Rattle.std.specs.Prelude.{is_some, unwrap_or}
use Rattle.std.specs.declared.cmp.Ordering.{Ordering}
use Rattle.std.specs.declared.cmp.Ordering.TheVariants.{Less, Equal, Greater}
use Rattle.std.specs.Ordering.{match_ordering, is_eq, is_lt, ordering_reverse}
use Rattle.std.specs.Cmp.Lexicographic.{texts_ties, nat_list_cmp_total, nat_list_eq_equiv, same_text}
use Rattle.std.specs.List.{AllByRecursion, list_any}
use Rattle.std.specs.List.Sorted.{IsStrictlySortedBy}
use Rattle.std.specs.Map.{keys_of as entry_keys, lookup}
use Rattle.std.specs.BTreeMap.{insert_entry}
use Rattle.std.proofs.lemmas.Map.Lookups.{exact_bytes}
use Rattle.ledger_model.specs.Values.{same_bytes}
use Rattle.ledger_model.specs.Kinds.{key_of, value_in, value_at, with_key, keys_of, pairs_of}
use Rattle.app_kinds.specs.Sorted.{Pair}
use Rattle.app_kinds.proofs.Entries.{byte_cmp}

-- ---- keys in order

-- the keys with one more, by the order's three answers
key_among : List ℕ → List (List ℕ) → List (List ℕ)
key_among k [] = k ∷ []
key_among k (x ∷ xs) = match_ordering (byte_cmp k x) (k ∷ x ∷ xs) (x ∷ xs) (x ∷ key_among k xs)

with_key-key_among : (k : List ℕ) (ks : List (List ℕ)) → with_key k ks ≡ key_among k ks
unfolding key_among
with_key-key_among k [] = refl
with_key-key_among k (x ∷ xs) =
    ap (λ b. cond b (x ∷ xs) (cond (is_lt (byte_cmp k x)) (k ∷ x ∷ xs) (x ∷ with_key k xs))) (texts_ties k x)
    ∙ by (byte_cmp k x)
    ∙ ap (λ r. match_ordering (byte_cmp k x) (k ∷ x ∷ xs) (x ∷ xs) (x ∷ r)) (with_key-key_among k xs)
  where
    by : (o : Ordering) → cond (is_eq o) (x ∷ xs) (cond (is_lt o) (k ∷ x ∷ xs) (x ∷ with_key k xs))
        ≡ match_ordering o (k ∷ x ∷ xs) (x ∷ xs) (x ∷ with_key k xs)
    by Less = refl
    by Equal = refl
    by Greater = refl

before_head : (k x : List ℕ) (xs : List (List ℕ)) → byte_cmp k x ≡ Less → key_among k (x ∷ xs) ≡ k ∷ x ∷ xs
unfolding key_among
before_head k x xs e = rw e refl

at_head : (k x : List ℕ) (xs : List (List ℕ)) → byte_cmp k x ≡ Equal → key_among k (x ∷ xs) ≡ x ∷ xs
unfolding key_among
at_head k x xs e = rw e refl

behind_head : (k x : List ℕ) (xs : List (List ℕ)) → byte_cmp k x ≡ Greater → key_among k (x ∷ xs) ≡ x ∷ key_among k xs
unfolding key_among
behind_head k x xs e = rw e refl

alone : (k : List ℕ) → key_among k [] ≡ k ∷ []
unfolding key_among
alone k = refl

-- the order from the other side
turned : (a b : List ℕ) (o : Ordering) → byte_cmp a b ≡ o → byte_cmp b a ≡ ordering_reverse o
turned a b o e = nat_list_cmp_total.antisymm b a ∙ ap ordering_reverse e

-- two keys beside each other, in whichever order they come
beside : (a b : List ℕ) (rest : List (List ℕ)) → key_among a rest ≡ a ∷ rest → key_among b rest ≡ b ∷ rest
    → key_among a (b ∷ rest) ≡ key_among b (a ∷ rest)
beside a b rest ha hb = by (byte_cmp a b) refl
  where
    by : (o : Ordering) → byte_cmp a b ≡ o → key_among a (b ∷ rest) ≡ key_among b (a ∷ rest)
    by Less e = before_head a b rest e ∙ sym (behind_head b a rest (turned a b Less e) ∙ ap (λ r. a ∷ r) hb)
    by Equal e = let same = exact_bytes a b e in ap (λ k. key_among k (b ∷ rest)) same ∙ ap (λ k. key_among b (k ∷ rest)) (sym same)
    by Greater e = behind_head a b rest e ∙ ap (λ r. b ∷ r) ha ∙ sym (before_head b a rest (turned a b Greater e))

-- a comes before the head, and b doesn't
less_other : (a b x : List ℕ) (xs rest : List (List ℕ)) → byte_cmp a x ≡ Less → byte_cmp b a ≡ Greater → key_among b (x ∷ xs) ≡ x ∷ rest
    → key_among a (key_among b (x ∷ xs)) ≡ key_among b (key_among a (x ∷ xs))
less_other a b x xs rest ea eb hb =
    ap (key_among a) hb ∙ before_head a x rest ea
    ∙ sym (ap (key_among b) (before_head a x xs ea) ∙ behind_head b a (x ∷ xs) eb ∙ ap (λ r. a ∷ r) hb)

-- a is the head, and b doesn't come before it
equal_other : (a b x : List ℕ) (xs rest : List (List ℕ)) → byte_cmp a x ≡ Equal → key_among b (x ∷ xs) ≡ x ∷ rest
    → key_among a (key_among b (x ∷ xs)) ≡ key_among b (key_among a (x ∷ xs))
equal_other a b x xs rest ea hb =
    ap (key_among a) hb ∙ at_head a x rest ea ∙ sym (ap (key_among b) (at_head a x xs ea) ∙ hb)

equal_after : (a b x : List ℕ) → byte_cmp a x ≡ Less → byte_cmp b x ≡ Equal → byte_cmp b a ≡ Greater
equal_after a b x ea eb = rw (exact_bytes b x eb) (turned a x Less ea)

greater_after : (a b x : List ℕ) → byte_cmp a x ≡ Less → byte_cmp b x ≡ Greater → byte_cmp b a ≡ Greater
greater_after a b x ea eb = turned a b Less (nat_list_cmp_total.trans a x b ea (turned b x Greater eb))

-- two keys come in either order
key_among-swap : (a b : List ℕ) (ks : List (List ℕ)) → key_among a (key_among b ks) ≡ key_among b (key_among a ks)
key_among-swap a b [] = ap (key_among a) (alone b) ∙ beside a b [] (alone a) (alone b) ∙ sym (ap (key_among b) (alone a))
key_among-swap a b (x ∷ xs) = by (byte_cmp a x) (byte_cmp b x) refl refl (key_among-swap a b xs)
  where
    by : (o p : Ordering) → byte_cmp a x ≡ o → byte_cmp b x ≡ p → key_among a (key_among b xs) ≡ key_among b (key_among a xs)
        → key_among a (key_among b (x ∷ xs)) ≡ key_among b (key_among a (x ∷ xs))
    by Less Less ea eb rest = ap (key_among a) (before_head b x xs eb)
        ∙ beside a b (x ∷ xs) (before_head a x xs ea) (before_head b x xs eb) ∙ sym (ap (key_among b) (before_head a x xs ea))
    by Less Equal ea eb rest = less_other a b x xs xs ea (equal_after a b x ea eb) (at_head b x xs eb)
    by Less Greater ea eb rest = less_other a b x xs (key_among b xs) ea (greater_after a b x ea eb) (behind_head b x xs eb)
    by Equal Less ea eb rest = sym (less_other b a x xs xs eb (equal_after b a x eb ea) (at_head a x xs ea))
    by Equal Equal ea eb rest = equal_other a b x xs xs ea (at_head b x xs eb)
    by Equal Greater ea eb rest = equal_other a b x xs (key_among b xs) ea (behind_head b x xs eb)
    by Greater Less ea eb rest = sym (less_other b a x xs (key_among a xs) eb (greater_after b a x eb ea) (behind_head a x xs ea))
    by Greater Equal ea eb rest = sym (equal_other b a x xs (key_among a xs) eb (behind_head a x xs ea))
    by Greater Greater ea eb rest =
        ap (key_among a) (behind_head b x xs eb) ∙ behind_head a x (key_among b xs) ea ∙ ap (λ r. x ∷ r) rest
        ∙ sym (ap (key_among b) (behind_head a x xs ea) ∙ behind_head b x (key_among a xs) eb)

keys_of-push : (done : List (List ℕ)) (tx : List ℕ) → keys_of (done ++ tx ∷ []) ≡ key_among (key_of tx) (keys_of done)
keys_of-push [] tx = with_key-key_among (key_of tx) []
keys_of-push (t ∷ done) tx =
    ap (with_key (key_of t)) (keys_of-push done tx)
    ∙ with_key-key_among (key_of t) (key_among (key_of tx) (keys_of done))
    ∙ key_among-swap (key_of t) (key_of tx) (keys_of done)
    ∙ ap (key_among (key_of tx)) (sym (with_key-key_among (key_of t) (keys_of done)))

-- ---- what is stored under a key

-- a later value, or else an earlier one
later : Option (List ℕ) → Option (List ℕ) → Option (List ℕ)
later (Some v) earlier = Some v
later None earlier = earlier

value_at-first : (tx : List ℕ) (txs : List (List ℕ)) (key : List ℕ)
    → value_at (tx ∷ txs) key ≡ later (value_at txs key) (cond (same_bytes (key_of tx) key) (Some (value_in tx)) None)
unfolding later
value_at-first tx txs key = refl

later-cond : (b : Bool) (v : List ℕ) (o earlier : Option (List ℕ)) → later (cond b (Some v) o) earlier ≡ cond b (Some v) (later o earlier)
unfolding later
later-cond true v o earlier = refl
later-cond false v o earlier = refl

later-none : (o : Option (List ℕ)) → later None o ≡ o
unfolding later
later-none o = refl

value_at-push : (done : List (List ℕ)) (tx key : List ℕ)
    → value_at (done ++ tx ∷ []) key ≡ cond (same_bytes (key_of tx) key) (Some (value_in tx)) (value_at done key)
value_at-push [] tx key = value_at-first tx [] key ∙ later-none _
value_at-push (t ∷ done) tx key =
    let first = cond (same_bytes (key_of t) key) (Some (value_in t)) None in
    value_at-first t (done ++ tx ∷ []) key
    ∙ ap (λ o. later o first) (value_at-push done tx key)
    ∙ later-cond (same_bytes (key_of tx) key) (value_in tx) (value_at done key) first
    ∙ ap (λ o. cond (same_bytes (key_of tx) key) (Some (value_in tx)) o) (sym (value_at-first t done key))

same_itself : (k : List ℕ) → same_bytes k k ≡ true
same_itself k = nat_list_eq_equiv.refl k

-- ---- the pairs

abbrev pub paired : (List ℕ → List ℕ) → List (List ℕ) → List Pair
paired g ks = map {B = Pair} (λ q. (q, g q)) ks

apart_from_less : (k q : List ℕ) → byte_cmp k q ≡ Less → same_bytes k q ≡ false
apart_from_less k q e = texts_ties k q ∙ ap is_eq e

apart_from_greater : (k q : List ℕ) → byte_cmp k q ≡ Greater → same_bytes k q ≡ false
apart_from_greater k q e = texts_ties k q ∙ ap is_eq e

-- a key below the least is below all
all_after : (k x : List ℕ) (xs : List (List ℕ)) → byte_cmp k x ≡ Less → AllByRecursion (λ y. byte_cmp x y ≡ Less) xs
    → AllByRecursion (λ y. byte_cmp k y ≡ Less) xs
all_after k x [] e above = tt
all_after k x (y ∷ ys) e above = (nat_list_cmp_total.trans k x y e above.0, all_after k x ys e above.1)

module _ (g g' : List ℕ → List ℕ) (k v : List ℕ) (here : g' k ≡ v) (other : (q : List ℕ) → same_bytes k q ≡ false → g' q ≡ g q) where
  unchanged_after : (ks : List (List ℕ)) → AllByRecursion (λ y. byte_cmp k y ≡ Less) ks → paired g' ks ≡ paired g ks
  unchanged_after [] above = refl
  unchanged_after (x ∷ xs) above =
      let first = other x (apart_from_less k x above.0) in
      let rest = unchanged_after xs above.1 in
      cc

  map-key_among : (ks : List (List ℕ)) → IsStrictlySortedBy byte_cmp ks
      → paired g' (key_among k ks) ≡ insert_entry byte_cmp (paired g ks) k v
  unfolding key_among IsStrictlySortedBy
  map-key_among [] sorted = ap (λ w. (k, w) ∷ []) here
  map-key_among (x ∷ xs) sorted = by (byte_cmp k x) refl (map-key_among xs sorted.1)
    where
      by : (o : Ordering) → byte_cmp k x ≡ o → paired g' (key_among k xs) ≡ insert_entry byte_cmp (paired g xs) k v
          → paired g' (match_ordering o (k ∷ x ∷ xs) (x ∷ xs) (x ∷ key_among k xs))
          ≡ match_ordering o ((k, v) ∷ paired g (x ∷ xs)) ((x, v) ∷ paired g xs) ((x, g x) ∷ insert_entry byte_cmp (paired g xs) k v)
      by Less e rest =
          let after = unchanged_after xs (all_after k x xs e sorted.0) in
          let first = other x (apart_from_less k x e) in
          cc
      by Equal e rest =
          let same = exact_bytes k x e in
          let after = unchanged_after xs (subst (λ (z : List ℕ). AllByRecursion (λ y. byte_cmp z y ≡ Less) xs) (sym same) sorted.0) in
          let first : g' x ≡ v = ap g' (sym same) ∙ here in
          cc
      by Greater e rest =
          let first = other x (apart_from_greater k x e) in
          cc

keys-stored : (g : List ℕ → List ℕ) (ks : List (List ℕ)) → entry_keys (paired g ks) ≡ ks
keys-stored g [] = refl
keys-stored g (k ∷ ks) = ap (λ r. k ∷ r) (keys-stored g ks)

-- one transaction more sets its key's value
pub stored-push : (done : List (List ℕ)) (tx : List ℕ) → IsStrictlySortedBy byte_cmp (entry_keys (pairs_of done))
    → pairs_of (done ++ tx ∷ []) ≡ insert_entry byte_cmp (pairs_of done) (key_of tx) (value_in tx)
stored-push done tx sorted =
    let g : List ℕ → List ℕ = λ k. unwrap_or (value_at done k) [] in
    let g' : List ℕ → List ℕ = λ k. unwrap_or (value_at (done ++ tx ∷ []) k) [] in
    let here : g' (key_of tx) ≡ value_in tx =
    ap (λ o. unwrap_or o []) (value_at-push done tx (key_of tx)
    ∙ ap (λ b. cond b (Some (value_in tx)) (value_at done (key_of tx))) (same_itself (key_of tx))) in
    let other : (q : List ℕ) → same_bytes (key_of tx) q ≡ false → g' q ≡ g q =
    λ q apart. ap (λ o. unwrap_or o []) (value_at-push done tx q ∙ ap (λ b. cond b (Some (value_in tx)) (value_at done q)) apart) in
    ap (paired g') (keys_of-push done tx)
    ∙ map-key_among g g' (key_of tx) (value_in tx) here other (keys_of done) (rw (keys-stored g (keys_of done)) at sorted)

-- ---- what the pairs hold under a key

lookup-map : (g : List ℕ → List ℕ) (q : List ℕ) (ks : List (List ℕ))
    → lookup (same_bytes q) (paired g ks) ≡ cond (list_any (same_bytes q) ks) (Some (g q)) None
lookup-map g q [] = refl
lookup-map g q (k ∷ ks) = by (same_bytes q k) refl (lookup-map g q ks)
  where
    by : (b : Bool) → same_bytes q k ≡ b → lookup (same_bytes q) (paired g ks) ≡ cond (list_any (same_bytes q) ks) (Some (g q)) None
        → cond b (Some (g k)) (lookup (same_bytes q) (paired g ks)) ≡ cond (b || list_any (same_bytes q) ks) (Some (g q)) None
    by true e rest = ap (λ z. Some (g z)) (sym (same_text q k (sym e)))
    by false e rest = rest

twice : (a b : Bool) → (a || b) ≡ (a || (a || b))
twice true b = refl
twice false b = refl

swapped : (a b c : Bool) → (a || (b || c)) ≡ (b || (a || c))
swapped true true c = refl
swapped true false c = refl
swapped false true c = refl
swapped false false c = refl

in-key_among : (q k : List ℕ) (ks : List (List ℕ))
    → list_any (same_bytes q) (key_among k ks) ≡ (same_bytes q k || list_any (same_bytes q) ks)
unfolding key_among
in-key_among q k [] = refl
in-key_among q k (x ∷ xs) = by (byte_cmp k x) refl (in-key_among q k xs)
  where
    by : (o : Ordering) → byte_cmp k x ≡ o → list_any (same_bytes q) (key_among k xs) ≡ (same_bytes q k || list_any (same_bytes q) xs)
        → list_any (same_bytes q) (match_ordering o (k ∷ x ∷ xs) (x ∷ xs) (x ∷ key_among k xs))
        ≡ (same_bytes q k || (same_bytes q x || list_any (same_bytes q) xs))
    by Less e rest = refl
    by Equal e rest = rw (← exact_bytes k x e) (twice (same_bytes q k) (list_any (same_bytes q) xs))
    by Greater e rest = ap (λ b. same_bytes q x || b) rest ∙ swapped (same_bytes q x) (same_bytes q k) (list_any (same_bytes q) xs)

is_some-later : (o p : Option (List ℕ)) → is_some (later o p) ≡ (is_some p || is_some o)
unfolding later
is_some-later (Some v) (Some w) = refl
is_some-later (Some v) None = refl
is_some-later None (Some w) = refl
is_some-later None None = refl

is_some-cond : (b : Bool) (v : List ℕ) → is_some (cond b (Some v) None) ≡ b
is_some-cond true v = refl
is_some-cond false v = refl

in-keys_of : (done : List (List ℕ)) (q : List ℕ) → list_any (same_bytes q) (keys_of done) ≡ is_some (value_at done q)
in-keys_of [] q = refl
in-keys_of (tx ∷ txs) q =
    ap (list_any (same_bytes q)) (with_key-key_among (key_of tx) (keys_of txs))
    ∙ in-key_among q (key_of tx) (keys_of txs)
    ∙ ap (λ b. same_bytes q (key_of tx) || b) (in-keys_of txs q)
    ∙ ap (λ b. b || is_some (value_at txs q))
    (nat_list_eq_equiv.symm q (key_of tx) ∙ sym (is_some-cond (same_bytes (key_of tx) q) (value_in tx)))
    ∙ sym (ap is_some (value_at-first tx txs q)
    ∙ is_some-later (value_at txs q) (cond (same_bytes (key_of tx) q) (Some (value_in tx)) None))

whole : (o : Option (List ℕ)) → cond (is_some o) (Some (unwrap_or o [])) None ≡ o
whole (Some v) = refl
whole None = refl

pub lookup-stored : (done : List (List ℕ)) (q : List ℕ) → lookup (same_bytes q) (pairs_of done) ≡ value_at done q
lookup-stored done q =
    lookup-map (λ k. unwrap_or (value_at done k) []) q (keys_of done)
    ∙ ap (λ b. cond b (Some (unwrap_or (value_at done q) [])) None) (in-keys_of done q)
    ∙ whole (value_at done q)

-- after the same pairs, one more transaction leads to the same pairs
pub pairs-next : (done others : List (List ℕ)) (tx : List ℕ) → pairs_of done ≡ pairs_of others
    → pairs_of (done ++ tx ∷ []) ≡ pairs_of (others ++ tx ∷ [])
pairs-next done others tx same =
    let g : List ℕ → List ℕ = λ k. unwrap_or (value_at done k) [] in
    let h : List ℕ → List ℕ = λ k. unwrap_or (value_at others k) [] in
    let keys : keys_of done ≡ keys_of others =
    sym (keys-stored g (keys_of done)) ∙ ap (λ (ps : List Pair). entry_keys ps) same ∙ keys-stored h (keys_of others) in
    let held : (q : List ℕ) → value_at done q ≡ value_at others q =
    λ q. sym (lookup-stored done q) ∙ ap (λ (ps : List Pair). lookup (same_bytes q) ps) same ∙ lookup-stored others q in
    let keys' : keys_of (done ++ tx ∷ []) ≡ keys_of (others ++ tx ∷ []) =
    keys_of-push done tx ∙ ap (key_among (key_of tx)) keys ∙ sym (keys_of-push others tx) in
    let held' : (q : List ℕ) → value_at (done ++ tx ∷ []) q ≡ value_at (others ++ tx ∷ []) q =
    λ q. value_at-push done tx q ∙ ap (λ o. cond (same_bytes (key_of tx) q) (Some (value_in tx)) o) (held q)
    ∙ sym (value_at-push others tx q) in
    λ i. paired (λ k. unwrap_or (held' k i) []) (keys' i)
