-- A cluster at its start satisfies the invariants of a running cluster.
use Rattle.ledger_model.specs.Meanings.{Meanings}
use Rattle.std.proofs.Common.{◌≡◌, ℕ, zero, suc, ◌+◌, ◌-◌, ◌<◌, ◌≤◌, inl, inr, Bool, true, false, not, ◌||◌, cond, List, [], ◌∷◌, length}
use Rattle.std.proofs.Common.{map, take, drop, refl, sym, ap, subst, ◌∙◌, arith, length-drop}
use Rattle.std.specs.Prelude.{nat_eq, nat_le, filter, All, Any, Option, Some, None, slice_get, slice_index_or, option_map, option_and_then}
use Rattle.std.specs.List.{filter_map, list_any, range_with_len}
use Rattle.std.proofs.Math.Seq.{drop-cons}
use Rattle.std.proofs.lemmas.Bool.{cases_Bool, or_cases, eqb-true, eq-eqb, ne_eqb, leb-true, leb-false}
use Rattle.std.proofs.lemmas.Option.{slice_get-map, same_Some}
use Rattle.std.proofs.lemmas.List.FromFn.{length-map-range_with_len}
use Rattle.std.proofs.lemmas.List.Elements.{All-head, All-same, All-rest}
use Rattle.std.proofs.lemmas.List.{take_all}
use Rattle.std.proofs.iter.Rest.{range_with_len_first}
use Rattle.ledger_model.specs.declared.config.Config.{Config}
use Rattle.ledger_model.specs.declared.history.History.{History}
use Rattle.ledger_model.specs.Applications.{Machine, run}
use Rattle.ledger_model.specs.Commits.{commits_of}
use Rattle.ledger_model.specs.Lawful.{Replay, ReplaysFrom}
use Rattle.ledger_model.specs.Notes.{Has}
use Rattle.ledger_model.specs.Rounds.{count_from}
use Rattle.ledger_model.specs.Rules.{Ring}
use Rattle.ledger_model.specs.Timelines.{AreReplicas}
use Rattle.ledger_model.specs.Worlds.{no_entries, beginning, Runs}
use Rattle.ledger_model.proofs.Lists.{any_has, has_any, filter_has, has_filter}
use Rattle.lms_tree.specs.Trees.{Secret}
use Rattle.key_ring.specs.Signers.{leaves_of}
use Rattle.cluster_setup.specs.Keys.{ring_with}
use Rattle.replica_core.proofs.SpentLeaves.{account_none}
use Rattle.replica_core.proofs.LeafOrder.{once_none}
use Rattle.locked_replica.specs.States.{StateView}
use Rattle.adversary_net.specs.declared.party.Party.{Party}
use Rattle.adversary_net.specs.WorldViews.{WorldView, IsCluster, IsMemberAt, state_in, state_at, correct_of, history_in, world_of}
use Rattle.adversary_net.specs.Openings.{different, is_liar, correct_from, correct_without, new_replica, new_party, new_cluster, IsSupply}

-- ---- numbers from a on

has_range : (a n r : ℕ) → Has (range_with_len a n) r → (a ≤ r) × (r < a + n)
has_range a zero r has = absurd has
has_range a (suc n) r (inl here) = (omega (arith, here), omega (arith, here))
has_range a (suc n) r (inr later) = let e = has_range (a + 1) n r later in (omega (arith, e.0), omega (arith, e.1))

range_has : (a n r : ℕ) → a ≤ r → r < a + n → Has (range_with_len a n) r
range_has a zero r low high = absurd (omega arith)
range_has a (suc n) r low high =
    elim (cases_Bool (nat_eq a r)) [
      | inl here ↦ inl (eqb-true a r here)
      | inr there ↦ inr (range_has (a + 1) n r (above (λ e. absurd (let is = eq-eqb a r e in cc))) (omega arith))
    ]
  where
    above : (a ≡ r → ⊥) → a + 1 ≤ r
    above differs = omega arith

pub get_range : (a n i x : ℕ) → slice_get (range_with_len a n) i ≡ Some x → (x ≡ a + i) × (i < n)
get_range a zero i x at = cc
get_range a (suc n) zero x at = (let e : a ≡ x = same_Some a x at in omega (arith, e), omega arith)
get_range a (suc n) (suc i) x at = let e = get_range (a + 1) n i x at in (omega (arith, e.0), omega (arith, e.1))

-- ---- how many lie

count_within : (p q : ℕ → Bool) (a n : ℕ) → ((r : ℕ) → a ≤ r → r < a + n → p r ≡ true → q r ≡ true) → count_from a n p ≤ count_from a n q
count_within p q a zero le = omega arith
count_within p q a (suc n) le =
    let rest = count_within p q (a + 1) n (λ r low high is. le r (omega (arith, low)) (omega (arith, high)) is) in
    elim (cases_Bool (p a)) [
      | inl is ↦ (let too = le a (omega arith) (omega arith) is in rw (is, too) (omega (arith, rest)))
      | inr is_not ↦ rw is_not (omega (arith, rest))
    ]

count_none : (a n : ℕ) → count_from a n (λ r. false) ≡ 0
count_none a zero = refl
count_none a (suc n) = omega (arith, count_none (a + 1) n)

count_or : (p q : ℕ → Bool) (a n : ℕ) → count_from a n (λ r. p r || q r) ≤ count_from a n p + count_from a n q
count_or p q a zero = omega arith
count_or p q a (suc n) =
    let rest = count_or p q (a + 1) n in
    elim (p a) as (λ b. cond (b || q a) 1 0 + count_from (a + 1) n (λ r. p r || q r) ≤ (cond b 1 0 + count_from (a + 1) n p) +
    (cond (q a) 1 0 + count_from (a + 1) n q)) [
      | true ↦ omega (arith, rest)
      | false ↦ omega (arith, rest)
    ]

count_past : (x a n : ℕ) → x < a → count_from a n (λ r. nat_eq x r) ≡ 0
count_past x a zero lt = refl
count_past x a (suc n) lt =
    let other : nat_eq x a ≡ false = ne_eqb x a (λ e. omega (arith, e)) in
    rw other (omega (arith, count_past x (a + 1) n (omega arith)))

count_one : (x a n : ℕ) → count_from a n (λ r. nat_eq x r) ≤ 1
count_one x a zero = omega arith
count_one x a (suc n) =
    elim (cases_Bool (nat_eq x a)) [
      | inl is ↦ rw is (omega (arith, count_past x (a + 1) n (omega (arith, eqb-true x a is))))
      | inr is_not ↦ rw is_not (omega (arith, count_one x (a + 1) n))
    ]

-- no more replicas lie than there are different liars
liars_counted : (n : ℕ) (liars : List ℕ) → count_from 0 n (is_liar liars) ≤ different liars
liars_counted n [] = omega (arith, count_none 0 n)
liars_counted n (x ∷ xs) =
    let rest = liars_counted n xs in
    elim (cases_Bool (list_any (λ y. nat_eq y x) xs)) [
      | inl again ↦
          let le = count_within (is_liar (x ∷ xs)) (is_liar xs) 0 n (λ r low high is. elim (or_cases (nat_eq x r) (is_liar xs r) is) [
            | inl here ↦ subst (λ k. is_liar xs k ≡ true) (eqb-true x r here) again
            | inr later ↦ later
          ]) in
          rw again (omega (arith, le, rest))
      | inr first ↦
          let le = count_or (λ r. nat_eq x r) (is_liar xs) 0 n in
          let one = count_one x 0 n in
          rw first (omega (arith, le, one, rest))
    ]

-- the correct ones are those that don't lie
pub correct_replicas : (config : Config) (liars : List ℕ) → different liars ≤ config.faults
    → AreReplicas config (correct_without config liars)
correct_replicas config liars few = record {
  below = λ r is.
      let found = any_has (λ x. nat_eq x r) (correct_without config liars) is in
      let kept = filter_has (λ r. not (is_liar liars r)) (range_with_len 0 config.replicas) (found.0) (found.1.0) in
      let range = has_range 0 config.replicas (found.0) (kept.0) in
      omega (arith, eqb-true (found.0) r (found.1.1), range.1);
  enough =
      let le = count_within (λ r. not (list_any (λ x. nat_eq x r) (correct_without config liars))) (is_liar liars) 0 config.replicas
      is_lying in
      omega (arith, le, liars_counted config.replicas liars);
}
  where
    is_lying : (r : ℕ) → 0 ≤ r → r < 0 + config.replicas → not (list_any (λ x. nat_eq x r) (correct_without config liars)) ≡ true
        → is_liar liars r ≡ true
    is_lying r low high is =
        elim (cases_Bool (is_liar liars r)) [
          | inl lie ↦ lie
          | inr honest ↦
              let has = has_filter (λ r. not (is_liar liars r)) (range_with_len 0 config.replicas) r
              (range_has 0 config.replicas r low high) (ap not honest) in
              let among = has_any (λ x. nat_eq x r) (correct_without config liars) r has (eq-eqb r r refl) in
              absurd (let no = ap not among in cc)
        ]

-- ---- the world as it begins

module _ (meaning : Meanings) (config : Config) (ring : Ring) (secrets : ℕ → Secret) (liars : List ℕ) where
  begins : (rs : List ℕ) → map history_in (filter_map state_in (map (new_party meaning config ring secrets liars) rs))
      ≡ map no_entries (filter (λ r. not (is_liar liars r)) rs)
  begins [] = refl
  begins (r ∷ rs) =
      let rest = begins rs in
      elim (cases_Bool (is_liar liars r)) [
        | inl lies ↦ rw lies rest
        | inr honest ↦ rw honest (ap (λ hs. no_entries r ∷ hs) rest)
      ]

  numbers : (rs : List ℕ) → map (λ (s : StateView). s.id) (filter_map state_in (map (new_party meaning config ring secrets liars) rs))
      ≡ filter (λ r. not (is_liar liars r)) rs
  numbers [] = refl
  numbers (r ∷ rs) =
      let rest = numbers rs in
      elim (cases_Bool (is_liar liars r)) [
        | inl lies ↦ rw lies rest
        | inr honest ↦ rw honest (ap (λ ns. r ∷ ns) rest)
      ]

  new_state : (r : ℕ) (s : StateView) → state_in (new_party meaning config ring secrets liars r) ≡ Some s
      → s ≡ new_replica meaning config ring secrets r
  new_state r s is =
      elim (cases_Bool (is_liar liars r)) [
        | inl lies ↦ absurd (let no = rw lies at is in cc)
        | inr honest ↦ sym (same_Some (new_replica meaning config ring secrets r) s (rw honest at is))
      ]

pub new_world : (meaning : Meanings) (config : Config) (secrets : ℕ → Secret) (liars : List ℕ)
    → world_of (new_cluster meaning config secrets liars) ≡ beginning (correct_without config liars)
new_world meaning config secrets liars =
    ap (λ (hs : List History). record { histories = hs; order = [] })
    (begins meaning config (ring_with config secrets) secrets liars (range_with_len 0 config.replicas))

pub new_correct : (meaning : Meanings) (config : Config) (secrets : ℕ → Secret) (liars : List ℕ)
    → correct_of (new_cluster meaning config secrets liars) ≡ correct_without config liars
new_correct meaning config secrets liars = numbers meaning config (ring_with config secrets) secrets liars
    (range_with_len 0 config.replicas)

new_member : (meaning : Meanings) (config : Config) (secrets : ℕ → Secret) (liars : List ℕ) (r : ℕ)
    → IsMemberAt meaning (new_cluster meaning config secrets liars) r (new_replica meaning config (ring_with config secrets) secrets r)
unfolding Replay ReplaysFrom commits_of
new_member meaning config secrets liars r =
    record {
      config = refl;
      ring = refl;
      id = refl;
      replay = tt;
      machine = refl;
      account = account_none config r (leaves_of (secrets r)) 0;
      once = once_none (secrets r) 0;
    }

mapped : {X Y : Type 0} (f : X → Y) (o : Option X) (y : Y) → option_map f o ≡ Some y → (x : X) × ((o ≡ Some x) × (f x ≡ y))
mapped f None y is = cc
mapped f (Some x) y is = (x, (refl, same_Some (f x) y is))

some_party : (o : Option (Party StateView)) (s : StateView) → option_and_then state_in o ≡ Some s
    → (p : Party StateView) × ((o ≡ Some p) × (state_in p ≡ Some s))
some_party None s is = cc
some_party (Some p) s is = (p, (refl, is))

-- each correct replica is a new one
new_at : (meaning : Meanings) (config : Config) (secrets : ℕ → Secret) (liars : List ℕ) (r : ℕ) (s : StateView)
    → state_at (new_cluster meaning config secrets liars) r ≡ Some s
    → s ≡ new_replica meaning config (ring_with config secrets) secrets r
new_at meaning config secrets liars r s is =
    let ring = ring_with config secrets in
    let own = some_party (slice_get (map (new_party meaning config ring secrets liars) (range_with_len 0 config.replicas)) r) s is in
    let from = mapped (new_party meaning config ring secrets liars) (slice_get (range_with_len 0 config.replicas) r) (own.0)
    (sym (slice_get-map (new_party meaning config ring secrets liars) (range_with_len 0 config.replicas) r) ∙ own.1.0) in
    let number : from.0 ≡ r = let e = (get_range 0 config.replicas r (from.0) (from.1.0)).0 in omega (arith, e) in
    new_state meaning config ring secrets liars r s
    (subst (λ k. state_in (new_party meaning config ring secrets liars k) ≡ Some s) number (ap state_in (from.1.1) ∙ own.1.1))

pub new_is_cluster : (meaning : Meanings) (config : Config) (secrets : ℕ → Secret) (liars : List ℕ) → different liars ≤ config.faults
    → IsCluster meaning (new_cluster meaning config secrets liars)
unfolding Runs
new_is_cluster meaning config secrets liars few = record {
  size = length-map-range_with_len (new_party meaning config (ring_with config secrets) secrets liars) 0 config.replicas;
  members = λ r s is. subst (IsMemberAt meaning (new_cluster meaning config secrets liars) r)
      (sym (new_at meaning config secrets liars r s is))
      (new_member meaning config secrets liars r);
  replicas = subst (AreReplicas config) (sym (new_correct meaning config secrets liars)) (correct_replicas config liars few);
  ran = record {
    steps = [];
    answers = [];
    runs = new_world meaning config secrets liars ∙ ap beginning (sym (new_correct meaning config secrets liars));
  };
}

-- ---- the code that makes it

-- the different ones from a place on
pub different_from : (xs : List ℕ) (i x : ℕ) → i < length xs → x ≡ slice_index_or xs i x
    → different (drop i xs) ≡ cond (list_any (λ y. nat_eq y x) (drop (i + 1) xs)) 0 1 + different (drop (i + 1) xs)
different_from xs i x lt is =
    let next : suc i ≡ i + 1 = omega arith in
    let parts : drop i xs ≡ x ∷ drop (i + 1) xs =
    drop-cons xs i x lt ∙ ap (λ y. y ∷ drop (suc i) xs) (sym is) ∙ ap (λ k. x ∷ drop k xs) next in
    ap different parts

-- none is a stranger
pub all_below : (config : Config) (liars : List ℕ) → (Any (λ r. config.replicas ≤ r) liars → ⊥) → All (λ r. r < config.replicas) liars
all_below config liars none = λ k d lt. elim (cases_Bool (nat_le config.replicas (slice_index_or liars k d))) [
  | inl far ↦ absurd (none (
    k,
    slice_index_or liars k d,
    lt,
    index_any liars k d lt,
    leb-true config.replicas (slice_index_or liars k d)
        far,
  ))
  | inr near ↦ leb-false config.replicas (slice_index_or liars k d) near
]
  where
    index_any : (xs : List ℕ) (k d : ℕ) → k < length xs → slice_index_or xs k (slice_index_or xs k d) ≡ slice_index_or xs k d
    index_any [] k d lt = absurd (omega arith)
    index_any (x ∷ xs) zero d lt = refl
    index_any (x ∷ xs) (suc k) d lt = index_any xs k d (omega arith)

-- how many correct ones are left then
pub correct_left : (liars : List ℕ) (a n : ℕ) → a < n
    → length (correct_from liars a (n - a)) ≡ cond (is_liar liars a) 0 1 + length (correct_from liars (a + 1) (n - (a + 1)))
correct_left liars a n lt =
    let parts = range_with_len_first a n lt in
    elim (cases_Bool (is_liar liars a)) [
      | inl lies ↦ ap (λ l. length (filter (λ r. not (is_liar liars r)) l)) parts ∙ rw lies (omega arith)
      | inr honest ↦ ap (λ l. length (filter (λ r. not (is_liar liars r)) l)) parts ∙ rw honest (omega arith)
    ]

-- the first of what there is is taken
pub first_app : (meaning : Meanings) → {A R : Type 0} (machine : A → Machine) (config : Config) (n : ℕ) (apps left : List A)
    (randoms : List R) (a : A)
    → IsSupply meaning machine config n apps randoms → apps ≡ a ∷ left → machine a ≡ run meaning config.kind []
first_app meaning machine config n apps left randoms a supply is =
    All-head (λ x. machine x ≡ run meaning config.kind []) a left
    (All-same (λ x. machine x ≡ run meaning config.kind []) (a ∷ left) apps (sym is) supply.opening)

pub supply_left : (meaning : Meanings) → {A R : Type 0} (machine : A → Machine) (config : Config) (n : ℕ) (apps left : List A)
    (randoms others : List R) (a : A)
    (r : R) → IsSupply meaning machine config n apps randoms
    → apps ≡ a ∷ left → randoms ≡ r ∷ others → IsSupply meaning machine config (n - 1) left others
supply_left meaning machine config n apps left randoms others a r supply is too = record {
  an_app = omega (arith, supply.an_app, ap length is);
  a_pair = omega (arith, supply.a_pair, ap length too);
  opening = All-rest (λ x. machine x ≡ run meaning config.kind []) a left apps is supply.opening;
}

-- what was made is the new cluster
pub new_is : (meaning : Meanings) (config : Config) (secrets : ℕ → Secret) (liars : List ℕ) (ring : Ring) (parties : List (Party StateView))
    (order : List ℕ)
    → ring ≡ ring_with config secrets
    → parties ≡ map (new_party meaning config ring secrets liars) (range_with_len 0 config.replicas) → order ≡ []
    → ◌≡◌ {A = WorldView} (record { config = config; ring = ring; parties = parties; order = order })
    (new_cluster meaning config secrets liars)
new_is meaning config secrets liars ring parties order keys made none =
    ap (λ (l : Ring). record { config = config; ring = l; parties = parties; order = order }) keys
    ∙ ap (λ (ps : List (Party StateView)). record { config = config; ring = ring_with config secrets; parties = ps; order = order })
    (made ∙ ap (λ (l : Ring). map (new_party meaning config l secrets liars) (range_with_len 0 config.replicas)) keys)
    ∙ ap (λ (o : List ℕ). record {
      config = config;
      ring = ring_with config secrets;
      parties =
          map (new_party meaning config (ring_with config secrets) secrets liars) (range_with_len 0 config.replicas);
      order = o;
    }) none

-- the rest of a list is all of it
pub rest_whole : (xs : List ℕ) (i : ℕ) → take (length xs - i) (drop i xs) ≡ drop i xs
rest_whole xs i = take_all (length xs - i) (drop i xs) (omega (arith, length-drop i xs))

-- one replica more is counted, if it is correct
pub correct_more : (liars : List ℕ) (a n : ℕ)
    → length (correct_from liars a (n + 1)) ≡ length (correct_from liars a n) + cond (is_liar liars (a + n)) 0 1
correct_more liars a zero =
    let here : a + 0 ≡ a = omega arith in
    let one : zero + 1 ≡ suc zero = omega arith in
    ap (λ k. length (filter (λ r. not (is_liar liars r)) (range_with_len a k))) one
    ∙ elim (is_liar liars a) as (λ b. length (cond (not b) (a ∷ []) []) ≡ 0 + cond b 0 1) [ true ↦ refl | false ↦ refl ]
    ∙ ap (λ k. 0 + cond (is_liar liars k) 0 1) (sym here)
correct_more liars a (suc n) =
    let rest = correct_more liars (a + 1) n in
    let there : (a + 1) + n ≡ a + suc n = omega arith in
    let size : suc n + 1 ≡ suc (n + 1) = omega arith in
    let moved : ◌≡◌ {A = ℕ} (cond (is_liar liars ((a + 1) + n)) 0 1) (cond (is_liar liars (a + suc n)) 0 1) =
    ap (λ k. cond (is_liar liars k) 0 1) there in
    ap (λ k. length (filter (λ r. not (is_liar liars r)) (range_with_len a k))) size
    ∙ elim (is_liar liars a) as (λ b. length (cond (not b) (a ∷ correct_from liars (a + 1) (n + 1)) (correct_from liars (a + 1) (n + 1)))
    ≡ length (cond (not b) (a ∷ correct_from liars (a + 1) n) (correct_from liars (a + 1) n)) + cond (is_liar liars (a + suc n)) 0 1) [
      | true ↦ omega (arith, rest, moved)
      | false ↦ omega (arith, rest, moved)
    ]
