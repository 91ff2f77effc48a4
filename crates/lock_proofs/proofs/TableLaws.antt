-- A table stays a table, and the index of a lock in it.
use Rattle.std.proofs.Common.{◌≡◌, ℕ, suc, ◌+◌, ◌<◌, ◌≤◌, Bool, true, false, List, [], ◌∷◌, length, refl, sym, ap, subst, ◌∙◌, cond, arith}
use Rattle.std.specs.Prelude.{map, not, ◌&&◌, filter, take_while, slice_get, slice_set}
use Rattle.std.specs.List.{insert, prefix_len}
use Rattle.std.specs.Option.{option_map_or}
use Rattle.std.proofs.lemmas.Bool.{and_parts, and_from, leb-false, false≢true, true≢false}
use Rattle.std.proofs.lemmas.List.Filters.{length-filter_both}
use Rattle.std.proofs.lemmas.List.{length-take}
use Rattle.std.proofs.lemmas.List.Edits.{length-insert}
use Rattle.ledger_model.specs.Values.{Value, same_value, is_below}
use Rattle.ledger_model.specs.Spelling.{are_ascending}
use Rattle.lock_proofs.specs.LockTables.{SignedLock, with_lock, has_four_others}
use Rattle.ledger_model.proofs.Lists.{same_value-equal}
use Rattle.lock_proofs.specs.Tables.{IsTable, values_of}
use Rattle.ledger_model.proofs.Below.{Same, Below, Above, side, below_trans, below_differs, tail_ascends}

-- ---- the order

-- a lower value in the first place
ascends_from_lower : {X : Type 0} (key : X → Value) (w x : Value) (t : List X) → is_below w x ≡ true → are_ascending (x ∷ map key t) ≡ true
    → are_ascending (w ∷ map key t) ≡ true
ascends_from_lower key w x [] below h = refl
ascends_from_lower key w x (m ∷ ms) below h =
    let y = key m in
    let parts = and_parts (is_below x y) (are_ascending (y ∷ map key ms)) h in
    and_from (is_below w y) (are_ascending (y ∷ map key ms)) (below_trans w x y below (parts.0)) (parts.1)

-- after a lower value a lock keeps its place in the order
ascends_behind : (w : Value) (s : SignedLock) (t : List SignedLock) → is_below w s.lock.value ≡ true
    → are_ascending (w ∷ values_of t) ≡ true → are_ascending (w ∷ values_of (with_lock s t)) ≡ true
ascends_behind w s [] below h = and_from (is_below w s.lock.value) true below refl
ascends_behind w s (m ∷ ms) below h =
    let v = s.lock.value in
    let x = m.lock.value in
    let parts = and_parts (is_below w x) (are_ascending (x ∷ values_of ms)) h in
    elim (side v x) [
      | Same same not_above ↦
          rw same (and_from (is_below w v) (are_ascending (v ∷ values_of ms)) below
          (subst (λ y. are_ascending (y ∷ values_of ms) ≡ true) (sym (same_value-equal v x same)) (parts.1)))
      | Below differs under not_above ↦
          rw (differs, under) (and_from (is_below w v) (is_below v x && are_ascending (x ∷ values_of ms)) below
          (and_from (is_below v x) (are_ascending (x ∷ values_of ms)) under (parts.1)))
      | Above differs not_under above ↦
          rw (differs, not_under) (and_from (is_below w x) (are_ascending (x ∷ values_of (with_lock s ms))) (parts.0)
          (ascends_behind x s ms above (parts.1)))
    ]

with_lock-ascends : (s : SignedLock) (t : List SignedLock) → are_ascending (values_of t) ≡ true
    → are_ascending (values_of (with_lock s t)) ≡ true
with_lock-ascends s [] h = refl
with_lock-ascends s (m ∷ ms) h =
    let v = s.lock.value in
    let x = m.lock.value in
    elim (side v x) [
      | Same same not_above ↦
          rw same (subst (λ y. are_ascending (y ∷ values_of ms) ≡ true) (sym (same_value-equal v x same)) h)
      | Below differs under not_above ↦ rw (differs, under) (and_from (is_below v x) (are_ascending (x ∷ values_of ms)) under h)
      | Above differs not_under above ↦ rw (differs, not_under) (ascends_behind x s ms above h)
    ]

-- the first one is below what is left of the others
filter-ascends_behind : {X : Type 0} (key : X → Value) (p : X → Bool) (w : Value) (t : List X) → are_ascending (w ∷ map key t) ≡ true
    → are_ascending (w ∷ map key (filter p t)) ≡ true
filter-ascends_behind key p w [] h = refl
filter-ascends_behind key p w (m ∷ ms) h =
    let x = key m in
    let parts = and_parts (is_below w x) (are_ascending (x ∷ map key ms)) h in
    elim (p m) as (λ b. are_ascending (w ∷ map key (cond b (m ∷ filter p ms) (filter p ms))) ≡ true) [
      | true ↦ and_from (is_below w x) (are_ascending (x ∷ map key (filter p ms))) (parts.0) (filter-ascends_behind key p x ms (parts.1))
      | false ↦ filter-ascends_behind key p w ms (ascends_from_lower key w x ms (parts.0) (parts.1))
    ]

pub filter-ascends : {X : Type 0} (key : X → Value) (p : X → Bool) (t : List X) → are_ascending (map key t) ≡ true
    → are_ascending (map key (filter p t)) ≡ true
filter-ascends key p [] h = refl
filter-ascends key p (m ∷ ms) h =
    elim (p m) as (λ b. are_ascending (map key (cond b (m ∷ filter p ms) (filter p ms))) ≡ true) [
      | true ↦ filter-ascends_behind key p (key m) ms h
      | false ↦ filter-ascends key p ms (tail_ascends (key m) (map key ms) h)
    ]

-- ---- how many

-- all are on other values than one below the first
none_same : (v : Value) (t : List SignedLock) → are_ascending (v ∷ values_of t) ≡ true
    → length (filter (λ m. not (same_value v m.lock.value)) t) ≡ length t
none_same v [] h = refl
none_same v (m ∷ ms) h =
    let x = m.lock.value in
    let parts = and_parts (is_below v x) (are_ascending (x ∷ values_of ms)) h in
    rw (below_differs v x (parts.0)) (ap suc (none_same v ms (ascends_from_lower (λ m. m.lock.value) v x ms (parts.0) (parts.1))))

-- a lock more, at most, than those on other values
length-with_lock : (s : SignedLock) (t : List SignedLock) → are_ascending (values_of t) ≡ true
    → length (with_lock s t) ≤ length (filter (λ m. not (same_value s.lock.value m.lock.value)) t) + 1
length-with_lock s [] h = omega arith
length-with_lock s (m ∷ ms) h =
    let v = s.lock.value in
    let x = m.lock.value in
    elim (side v x) [
      | Same same not_above ↦
          let rest = none_same v ms (subst (λ y. are_ascending (y ∷ values_of ms) ≡ true) (sym (same_value-equal v x same)) h) in
          rw same (omega arith)
      | Below differs under not_above ↦
          let rest = none_same v ms (ascends_from_lower (λ m. m.lock.value) v x ms under h) in
          rw (differs, under) (omega arith)
      | Above differs not_under above ↦
          let rest = length-with_lock s ms (tail_ascends x (values_of ms) h) in
          rw (differs, not_under) (omega arith)
    ]

pub with_lock-table : (s : SignedLock) (t : List SignedLock) → IsTable t → has_four_others s.lock.value t ≡ false → IsTable (with_lock s t)
with_lock-table s t table room = record {
  ascends = with_lock-ascends s t table.ascends;
  few = let few = length-with_lock s t table.ascends in
      let others = leb-false 4 (length (filter (λ m. not (same_value s.lock.value m.lock.value)) t)) room in
      omega arith;
}

pub filter-table : (p : SignedLock → Bool) (t : List SignedLock) → IsTable t → IsTable (filter p t)
filter-table p t table = record {
  ascends = filter-ascends (λ m. m.lock.value) p t table.ascends;
  few = let both =
      length-filter_both p (λ m. not (p m)) (λ m. refl) t in let few = table.few in omega arith;
}

-- ---- where a lock stands

abbrev pub place_of : Value → List SignedLock → ℕ
place_of v t = length (take_while (λ m. is_below m.lock.value v) t)

abbrev pub is_held_at : Value → List SignedLock → ℕ → Bool
is_held_at v t place = option_map_or (λ m. same_value v m.lock.value) (slice_get t place) false

-- the locks in front, where the first is on a lower value
place_of-behind : (v : Value) (m : SignedLock) (ms : List SignedLock) → is_below m.lock.value v ≡ true
    → place_of v (m ∷ ms) ≡ suc (place_of v ms)
place_of-behind v m ms above =
    let one_more : 1 + prefix_len (λ x. is_below x.lock.value v) ms ≡ suc (prefix_len (λ x. is_below x.lock.value v) ms) = omega arith in
    rw (above, one_more) refl

replaced : (s : SignedLock) (t : List SignedLock) → is_held_at s.lock.value t (place_of s.lock.value t) ≡ true
    → with_lock s t ≡ slice_set t (place_of s.lock.value t) s
replaced s [] held = cc
replaced s (m ∷ ms) held =
    let v = s.lock.value in
    elim (side v m.lock.value) [
      | Same same not_above ↦ rw (same, not_above) refl
      | Below differs under not_above ↦ absurd (false≢true (sym differs ∙ rw not_above at held))
      | Above differs not_under above ↦
          rw (differs, not_under, place_of-behind v m ms above)
          (ap (λ rest. m ∷ rest) (replaced s ms (rw (place_of-behind v m ms above) at held)))
    ]

inserted : (s : SignedLock) (t : List SignedLock) → is_held_at s.lock.value t (place_of s.lock.value t) ≡ false
    → with_lock s t ≡ insert t (place_of s.lock.value t) s
inserted s [] free = refl
inserted s (m ∷ ms) free =
    let v = s.lock.value in
    elim (side v m.lock.value) [
      | Same same not_above ↦ absurd (true≢false (sym same ∙ rw not_above at free))
      | Below differs under not_above ↦ rw (differs, under, not_above) refl
      | Above differs not_under above ↦
          rw (differs, not_under, place_of-behind v m ms above)
          (ap (λ rest. m ∷ rest) (inserted s ms (rw (place_of-behind v m ms above) at free)))
    ]

-- ---- what `put` does

-- the place of a lock, and whether one on its value stands there
pub record IsPlaceOf (s : SignedLock) (t : List SignedLock) (place : ℕ) (held : Bool) : Type 0 where
  pub place_is : place ≡ place_of s.lock.value t
  pub held_is : held ≡ is_held_at s.lock.value t place

pub put_in_place : (s : SignedLock) (t : List SignedLock) (place : ℕ) (held : Bool) → IsPlaceOf s t place held → held ≡ true
    → slice_set t place s ≡ with_lock s t
put_in_place s t place held p e = rw p.place_is (sym (replaced s t (rw p.place_is at (sym p.held_is ∙ e))))

pub put_between : (s : SignedLock) (t : List SignedLock) (place : ℕ) (held : Bool) → IsPlaceOf s t place held → held ≡ false
    → insert t place s ≡ with_lock s t
put_between s t place held p e = rw p.place_is (sym (inserted s t (rw p.place_is at (sym p.held_is ∙ e))))

-- where no lock is replaced, there is room for one more
pub room_between : (s : SignedLock) (t : List SignedLock) (place : ℕ) (held : Bool) → IsPlaceOf s t place held → held ≡ false
    → (len room : ℕ) → len ≡ length t → length (with_lock s t) ≤ room → len < room
room_between s t place held p e len room is_len fits =
    let taken = length-take (prefix_len (λ m. is_below m.lock.value s.lock.value) t) t in
    let is_place = p.place_is in
    let within : place ≤ length t = omega arith in
    let longer = length-insert t place s within in
    let same = ap length (put_between s t place held p e) in
    omega arith
