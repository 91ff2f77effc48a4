-- The slots of the heights from a floor on: the instance of an open height is in the slot of that height.
use Rattle.std.proofs.Common.{◌≡◌, ℕ, zero, suc, ◌+◌, ◌-◌, ◌<◌, ◌≤◌, true, List, [], ◌∷◌, ◌++◌, length, drop, get_or}
use Rattle.std.proofs.Common.{refl, sym, ap, subst, ◌∙◌, arith, add-one, eq-eqb}
use Rattle.std.specs.Prelude.{Option, Some, None, is_some, min, slice_get, slice_set}
use Rattle.std.specs.List.{AllByRecursion, cons_option}
use Rattle.std.proofs.lemmas.Bool.{le-leb, lt-leb, ne_eqb}
use Rattle.std.proofs.lemmas.List.{drop_min}
use Rattle.std.proofs.lemmas.Option.{slice_get_past, slice_get_read}
use Rattle.ledger_model.specs.declared.config.Config.{Config}
use Rattle.tally.specs.Tallies.{flat, read_of, all_read}
use Rattle.instance.specs.Instances.{InstanceView}
use Rattle.height_row.specs.Heights.{row_at, rows_from, AreAscending, AreFound}
use Rattle.height_row.specs.Slots.{IsRowOf, AreSlots}

-- ---- what a slot has

-- another in a slot
pub set_there : {X : Type 0} (slots : List (Option X)) (place : ℕ) (new : Option X) → place < length slots
    → read_of (slice_set slots place new) place ≡ new
set_there [] place new within = absurd (omega arith)
set_there (slot ∷ slots) zero new within = refl
set_there (slot ∷ slots) (suc place) new within = set_there slots place new (omega arith)

pub set_elsewhere : {X : Type 0} (slots : List (Option X)) (place other : ℕ) (new : Option X) → (other ≡ place → ⊥)
    → read_of (slice_set slots place new) other ≡ read_of slots other
set_elsewhere [] place other new differs = refl
set_elsewhere (slot ∷ slots) zero zero new differs = absurd (differs refl)
set_elsewhere (slot ∷ slots) zero (suc other) new differs = refl
set_elsewhere (slot ∷ slots) (suc place) zero new differs = refl
set_elsewhere (slot ∷ slots) (suc place) (suc other) new differs = set_elsewhere slots place other new (λ e. differs (ap suc e))

-- a slot that has something is one of them
pub slot_within : {X : Type 0} (slots : List (Option X)) (place : ℕ) → is_some (read_of slots place) ≡ true → place < length slots
slot_within [] place is = cc
slot_within (slot ∷ slots) zero is = omega arith
slot_within (slot ∷ slots) (suc place) is = (let rest = slot_within slots place is in omega (arith, rest))

-- what an element is, once it was matched
pub slot_is : {X : Type 0} (slots : List X) (place : ℕ) {item slot : X} → item ≡ get_or slots place item
    → get_or slots place item ≡ slot → slot ≡ get_or slots place slot
slot_is slots place is same = subst (λ x. x ≡ get_or slots place x) (is ∙ same) is

pub slot_read : {X : Type 0} (slots : List (Option X)) (place : ℕ) (slot : Option X) → place < length slots
    → slot ≡ get_or slots place slot → read_of slots place ≡ slot
slot_read slots place slot within is = ap flat (slice_get_read slots (length slots) place slot refl within is)

pub none_past : {X : Type 0} (slots : List (Option X)) (place : ℕ) → length slots ≤ place → read_of slots place ≡ None
none_past slots place past = ap flat (slice_get_past slots place past)

-- the slots from one on
pub read_later : {X : Type 0} (slots : List (Option X)) (n place : ℕ) → read_of (drop n slots) place ≡ read_of slots (n + place)
read_later slots zero place = ap (read_of slots) (omega arith)
read_later [] (suc n) place = refl
read_later (slot ∷ slots) (suc n) place =
    read_later slots n place ∙ ap (read_of (slot ∷ slots)) (let e : suc (n + place) ≡ suc n + place = omega arith in e)

first_left : {X : Type 0} (slots : List (Option X)) (place : ℕ) (slot : Option X) → place < length slots
    → slot ≡ get_or slots place slot → all_read (drop place slots) ≡ cons_option slot (all_read (drop (suc place) slots))
first_left [] place slot within is = absurd (omega arith)
first_left (x ∷ slots) zero slot within is = rw is refl
first_left (x ∷ slots) (suc place) slot within is = first_left slots place slot (omega arith) is

pub all_left : {X : Type 0} (slots : List (Option X)) (place : ℕ) (slot : Option X) → place < length slots
    → slot ≡ get_or slots place slot → all_read (drop place slots) ≡ cons_option slot (all_read (drop (place + 1) slots))
all_left slots place slot within is = rw add-one (first_left slots place slot within is)

-- one more slot, which is empty
pub empty_more : {X : Type 0} (slots : List (Option X)) (place : ℕ) → read_of (slots ++ None ∷ []) place ≡ read_of slots place
empty_more [] zero = refl
empty_more [] (suc place) = refl
empty_more (slot ∷ slots) zero = refl
empty_more (slot ∷ slots) (suc place) = empty_more slots place

-- ---- the heights of the slots

higher_at : (low : ℕ) (rows : List InstanceView) (place : ℕ) (row : InstanceView) → AllByRecursion (λ later. low < later.height) rows
    → slice_get rows place ≡ Some row → low < row.height
higher_at low [] place row all is = cc
higher_at low (x ∷ xs) zero row all is = (let same : x ≡ row = cc in subst (λ r. low < r.height) same all.0)
higher_at low (x ∷ xs) (suc place) row all is = higher_at low xs place row all.1 is

module _ (config : Config) (id : ℕ) where
  later_slots : (floor : ℕ) (slot : Option InstanceView) (slots : List (Option InstanceView)) → AreSlots config id floor (slot ∷ slots)
      → AreSlots config id (floor + 1) slots
  later_slots floor slot slots all place row is =
      let next : floor + suc place ≡ floor + 1 + place = omega arith in
      subst (λ h. IsRowOf config id h row) next (all (suc place) row is)

  first_height : (floor : ℕ) (row : InstanceView) (slots : List (Option InstanceView)) → AreSlots config id floor (Some row ∷ slots)
      → row.height ≡ floor
  first_height floor row slots all = (let is = (all 0 row refl).2 in omega (arith, is))

  -- they are at or above the floor
  pub all_high : (floor : ℕ) (slots : List (Option InstanceView)) → AreSlots config id floor slots
      → (low : ℕ) → low < floor → AllByRecursion (λ row. low < row.height) (all_read slots)
  all_high floor [] all low below = tt
  all_high floor (None ∷ slots) all low below = all_high (floor + 1) slots (later_slots floor None slots all) low (omega (arith, below))
  all_high floor (Some row ∷ slots) all low below = (
    (let is = first_height floor row slots all in omega (arith, is, below)),
    all_high (floor + 1) slots (later_slots floor (Some row) slots all) low
        (omega (arith, below)),
  )

  -- and they ascend
  pub slots_ascend : (floor : ℕ) (slots : List (Option InstanceView)) → AreSlots config id floor slots → AreAscending (all_read slots)
  slots_ascend floor [] all = tt
  slots_ascend floor (None ∷ slots) all = slots_ascend (floor + 1) slots (later_slots floor None slots all)
  slots_ascend floor (Some row ∷ slots) all =
      let later = later_slots floor (Some row) slots all in
      let is = first_height floor row slots all in
      (all_high (floor + 1) slots later row.height (omega (arith, is)), slots_ascend (floor + 1) slots later)

  -- they are all of this replica
  pub slots_own : (floor : ℕ) (slots : List (Option InstanceView)) → AreSlots config id floor slots
      → AllByRecursion (λ row. (row.config ≡ config) × (row.id ≡ id)) (all_read slots)
  slots_own floor [] all = tt
  slots_own floor (None ∷ slots) all = slots_own (floor + 1) slots (later_slots floor None slots all)
  slots_own floor (Some row ∷ slots) all = (
    ((all 0 row refl).0, (all 0 row refl).1),
    slots_own (floor + 1) slots
        (later_slots floor (Some row) slots all),
  )

  -- no height below the floor is open
  pub none_below : (floor : ℕ) (slots : List (Option InstanceView)) → AreSlots config id floor slots → (h : ℕ) → h < floor
      → row_at (all_read slots) h ≡ None
  none_below floor [] all h low = refl
  none_below floor (None ∷ slots) all h low = none_below (floor + 1) slots (later_slots floor None slots all) h (omega (arith, low))
  none_below floor (Some row ∷ slots) all h low =
      let is = first_height floor row slots all in
      rw (ne_eqb row.height h (λ e. omega (arith, e, is, low)))
      (none_below (floor + 1) slots (later_slots floor (Some row) slots all) h (omega (arith, low)))

  -- an open height is in its slot
  pub row_there : (floor : ℕ) (slots : List (Option InstanceView)) → AreSlots config id floor slots → (place : ℕ)
      → row_at (all_read slots) (floor + place) ≡ read_of slots place
  row_there floor [] all place = refl
  row_there floor (None ∷ slots) all zero = none_below (floor + 1) slots (later_slots floor None slots all) (floor + 0) (omega arith)
  row_there floor (None ∷ slots) all (suc place) =
      let next : floor + suc place ≡ floor + 1 + place = omega arith in
      ap (row_at (all_read slots)) next ∙ row_there (floor + 1) slots (later_slots floor None slots all) place
  row_there floor (Some row ∷ slots) all zero = rw (eq-eqb row.height (floor + 0) ((all 0 row refl).2)) refl
  row_there floor (Some row ∷ slots) all (suc place) =
      let is = first_height floor row slots all in
      let next : floor + suc place ≡ floor + 1 + place = omega arith in
      rw (ne_eqb row.height (floor + suc place) (λ e. omega (arith, e, is)))
      (ap (row_at (all_read slots)) next ∙ row_there (floor + 1) slots (later_slots floor (Some row) slots all) place)

  pub row_from : (floor : ℕ) (slots : List (Option InstanceView)) → AreSlots config id floor slots → (h : ℕ) → floor ≤ h
      → row_at (all_read slots) h ≡ read_of slots (h - floor)
  row_from floor slots all h high =
      let e : h ≡ floor + (h - floor) = omega (arith, high) in
      ap (row_at (all_read slots)) e ∙ row_there floor slots all (h - floor)

  -- each row is found under its height
  pub rows_found : (floor : ℕ) (slots : List (Option InstanceView)) → AreSlots config id floor slots → AreFound (all_read slots)
  rows_found floor [] all place row is = cc
  rows_found floor (None ∷ slots) all place row is = rows_found (floor + 1) slots (later_slots floor None slots all) place row is
  rows_found floor (Some x ∷ slots) all zero row is =
      let same : x ≡ row = cc in
      rw (eq-eqb x.height row.height (ap (λ r. r.height) same)) is
  rows_found floor (Some x ∷ slots) all (suc place) row is =
      let later = later_slots floor (Some x) slots all in
      let first = first_height floor x slots all in
      let above = higher_at x.height (all_read slots) place row (all_high (floor + 1) slots later x.height (omega (arith, first))) is in
      rw (ne_eqb x.height row.height (λ e. omega (arith, e, above))) (rows_found (floor + 1) slots later place row is)

  -- the slots from a higher floor on
  slots_from : (floor n : ℕ) (slots : List (Option InstanceView)) → AreSlots config id floor slots
      → AreSlots config id (floor + n) (drop n slots)
  slots_from floor n slots all place row is =
      let e : floor + (n + place) ≡ floor + n + place = omega arith in
      subst (λ h. IsRowOf config id h row) e (all (n + place) row (sym (read_later slots n place) ∙ is))

  all_from : (floor : ℕ) (slots : List (Option InstanceView)) → AreSlots config id floor slots → (low : ℕ) → low ≤ floor
      → rows_from low (all_read slots) ≡ all_read slots
  all_from floor [] all low below = refl
  all_from floor (None ∷ slots) all low below = all_from (floor + 1) slots (later_slots floor None slots all) low (omega (arith, below))
  all_from floor (Some row ∷ slots) all low below =
      let is = first_height floor row slots all in
      rw (le-leb low row.height (omega (arith, is, below)))
      (ap (λ rows. row ∷ rows) (all_from (floor + 1) slots (later_slots floor (Some row) slots all) low (omega (arith, below))))

  rows_dropped : (floor n : ℕ) (slots : List (Option InstanceView)) → AreSlots config id floor slots
      → all_read (drop n slots) ≡ rows_from (floor + n) (all_read slots)
  rows_dropped floor zero slots all = sym (all_from floor slots all (floor + 0) (omega arith))
  rows_dropped floor (suc n) [] all = refl
  rows_dropped floor (suc n) (None ∷ slots) all =
      let next : floor + suc n ≡ floor + 1 + n = omega arith in
      rows_dropped (floor + 1) n slots (later_slots floor None slots all) ∙ ap (λ f. rows_from f (all_read slots)) (sym next)
  rows_dropped floor (suc n) (Some row ∷ slots) all =
      let is = first_height floor row slots all in
      let next : floor + suc n ≡ floor + 1 + n = omega arith in
      rw (lt-leb (floor + suc n) row.height (omega (arith, is)))
      (rows_dropped (floor + 1) n slots (later_slots floor (Some row) slots all) ∙ ap (λ f. rows_from f (all_read slots)) (sym next))

  pub record AreLeft (floor : ℕ) (old left : List (Option InstanceView)) : Type 0 where
    pub all : AreSlots config id floor left
    pub rows : all_read left ≡ rows_from floor (all_read old)

  pub are_left : (old_floor floor : ℕ) (slots left : List (Option InstanceView)) → AreSlots config id old_floor slots → old_floor ≤ floor
      → left ≡ drop (min (floor - old_floor) (length slots)) slots → AreLeft floor slots left
  are_left old_floor floor slots left all above is =
      let n = floor - old_floor in
      let dropped : left ≡ drop n slots = is ∙ drop_min n slots in
      let to : old_floor + n ≡ floor = omega (arith, above) in
      record {
        all = subst (AreSlots config id floor) (sym dropped)
            (subst (λ f. AreSlots config id f (drop n slots)) to (slots_from old_floor n slots all));
        rows = ap all_read dropped ∙ rows_dropped old_floor n slots all ∙ ap (λ f. rows_from f (all_read slots)) to;
      }
