-- The rows of the open heights, by the slots in which they are.
use Rattle.std.proofs.Common.{◌≡◌, ℕ, ◌+◌, ◌-◌, ◌<◌, ◌≤◌, inl, inr, true, List, length, get_or, sym, ap, subst, ◌∙◌, arith}
use Rattle.std.specs.Prelude.{nat_lt, nat_le, nat_eq, Option, Some, None, is_some, slice_set, if◌then◌else◌}
use Rattle.std.proofs.lemmas.Bool.{cases_Bool, ltb-true, ltb-false, leb-true, leb-false, eqb-true, eqb-false}
use Rattle.ledger_model.specs.Limits.{max_height}
use Rattle.ledger_model.specs.declared.config.Config.{Config}
use Rattle.ledger_model.specs.Values.{Value}
use Rattle.tally.specs.Tallies.{read_of, all_read}
use Rattle.instance.specs.Instances.{InstanceView}
use Rattle.instance.specs.Reads.{IsSameHeight, opened_row}
use Rattle.height_row.specs.Heights.{row_at, AreApart, AreOwn}
use Rattle.height_row.specs.Slots.{IsRowOf, AreSlots}
use Rattle.height_row.proofs.Opening.{MayBeOpened}
use Rattle.height_row.proofs.HeightSlots.{set_there, set_elsewhere, slot_within, slot_read, none_below, row_there, row_from}

module _ (config : Config) (id floor : ℕ) where
  -- each is of its height, of this replica and this cluster
  pub own_rows : (slots : List (Option InstanceView)) → AreSlots config id floor slots
      → AreOwn (record { config = config; id = id; floor = floor; rows = all_read slots })
  own_rows slots all h row is = elim (cases_Bool (nat_lt h floor)) [
    | inl below ↦ absurd (cc (none_below config id floor slots all h (ltb-true h floor below)))
    | inr above ↦
        let high = ltb-false h floor above in
        let own = all (h - floor) row (sym (row_from config id floor slots all h high) ∙ is) in
        let e : floor + (h - floor) ≡ h = omega (arith, high) in
        (own.0, own.1, own.2 ∙ e, subst (λ n. n ≤ max_height) e own.3, high)
  ]

  -- slots that differ at one place alone
  pub others_apart : (old new : List (Option InstanceView)) → AreSlots config id floor old → AreSlots config id floor new
      → (h : ℕ) → ((other : ℕ) → (other ≡ h - floor → ⊥) → read_of new other ≡ read_of old other)
      → floor ≤ h → AreApart h (all_read old) (all_read new)
  others_apart old new was all h same open_high other differs = elim (cases_Bool (nat_lt other floor)) [
    | inl below ↦ (let low = ltb-true other floor below in
        none_below config id floor new all other low ∙ sym (none_below config id floor old was other low))
    | inr above ↦ (let high = ltb-false other floor above in
        row_from config id floor new all other high
        ∙ same (other - floor) (λ e. differs (omega (arith, e, high, open_high)))
        ∙ sym (row_from config id floor old was other high))
  ]

  -- another instance in a slot
  pub slots_set : (slots : List (Option InstanceView)) (place : ℕ) (new : InstanceView) → AreSlots config id floor slots
      → place < length slots → IsRowOf config id (floor + place) new → AreSlots config id floor (slice_set slots place (Some new))
  slots_set slots place new all within own other row is = elim (cases_Bool (nat_eq other place)) [
    | inl here ↦
        let e = eqb-true other place here in
        let same : row ≡ new = cc (sym is ∙ ap (read_of (slice_set slots place (Some new))) e ∙ set_there slots place (Some new) within) in
        subst (IsRowOf config id (floor + other)) (sym same) (subst (λ n. IsRowOf config id (floor + n) new) (sym e) own)
    | inr there ↦ all other row (sym (set_elsewhere slots place other (Some new) (eqb-false other place there)) ∙ is)
  ]

  -- of the same height
  pub slots_put : (slots : List (Option InstanceView)) (place : ℕ) (now new : InstanceView) → AreSlots config id floor slots
      → place < length slots → read_of slots place ≡ Some now → IsSameHeight now new
      → AreSlots config id floor (slice_set slots place (Some new))
  slots_put slots place now new all within is same =
      let own = all place now is in
      slots_set slots place new all within (same.config ∙ own.0, same.id ∙ own.1, same.height ∙ own.2, own.3)

  -- ---- the slot of a height

  module _ (slots : List (Option InstanceView)) (all : AreSlots config id floor slots) (h : ℕ) where
    -- by its place, if it has one
    module _ (found : Option ℕ) (is : found ≡ (if nat_le floor h then Some (h - floor) else None)) where
      pub not_placed : found ≡ None → row_at (all_read slots) h ≡ None
      not_placed none = elim (cases_Bool (nat_le floor h)) [
        | inl high ↦ absurd (cc (rw high at is))
        | inr low ↦ none_below config id floor slots all h (leb-false floor h low)
      ]

      pub placed : (place : ℕ) → found ≡ Some place → row_at (all_read slots) h ≡ read_of slots place
      placed place some = elim (cases_Bool (nat_le floor h)) [
        | inl high ↦
            let same : h - floor ≡ place = cc (rw high at is) in
            row_from config id floor slots all h (leb-true floor h high) ∙ ap (read_of slots) same
        | inr low ↦ absurd (cc (rw low at is))
      ]

    -- an open height has one
    module _ (opened : is_some (row_at (all_read slots) h) ≡ true) (place : ℕ)
        (found : (if is_some (row_at (all_read slots) h) then Some (h - floor) else None) ≡ Some place) where
      pub open_high : floor ≤ h
      open_high = elim (cases_Bool (nat_le floor h)) [
        | inl high ↦ leb-true floor h high
        | inr low ↦ absurd (cc (sym opened ∙ ap is_some (none_below config id floor slots all h (leb-false floor h low))))
      ]

      pub open_place : place ≡ h - floor
      open_place = cc (rw opened at found)

      row_is : row_at (all_read slots) h ≡ read_of slots place
      row_is = row_from config id floor slots all h open_high ∙ ap (read_of slots) (sym open_place)

      pub open_within : place < length slots
      open_within = slot_within slots place (ap is_some (sym row_is) ∙ opened)

      pub open_slot : (slot : Option InstanceView) → slot ≡ get_or slots place slot → row_at (all_read slots) h ≡ slot
      open_slot slot is = row_is ∙ slot_read slots place slot open_within is

  -- another instance of the same height in it
  pub record IsPut (old : List (Option InstanceView)) (h place : ℕ) (now new : InstanceView) : Type 0 where
    pub was : row_at (all_read old) h ≡ Some now
    pub own : (now.config ≡ config) × (now.id ≡ id) × (now.height ≡ h)
    pub all : AreSlots config id floor (slice_set old place (Some new))
    pub there : row_at (all_read (slice_set old place (Some new))) h ≡ Some new
    pub apart : AreApart h (all_read old) (all_read (slice_set old place (Some new)))

  pub is_put : (slots : List (Option InstanceView)) → AreSlots config id floor slots
      → (h : ℕ) → is_some (row_at (all_read slots) h) ≡ true
      → (place : ℕ) → (if is_some (row_at (all_read slots) h) then Some (h - floor) else None) ≡ Some place
      → (slot : Option InstanceView) → slot ≡ get_or slots place slot
      → (now new : InstanceView) → Some now ≡ slot → IsSameHeight now new → IsPut slots h place now new
  is_put slots all h opened place found slot is now new some same =
      let high = open_high slots all h opened place found in
      let at = open_place slots all h opened place found in
      let within = open_within slots all h opened place found in
      let was = open_slot slots all h opened place found slot is ∙ sym some in
      let here : h ≡ floor + place = omega (arith, at, high) in
      let read : read_of slots place ≡ Some now = slot_read slots place slot within is ∙ sym some in
      let own = all place now read in
      let after = slots_put slots place now new all within read same in
      record {
        was = was;
        own = (own.0, own.1, own.2 ∙ sym here);
        all = after;
        there = ap (row_at (all_read (slice_set slots place (Some new)))) here
            ∙ row_there config id floor (slice_set slots place (Some new)) after place ∙ set_there slots place (Some new) within;
        apart = others_apart slots (slice_set slots place (Some new)) all after h
            (λ other differs. set_elsewhere slots place other (Some new) (λ e. differs (e ∙ at))) high;
      }

  -- a height that is opened
  pub record IsOpened (old new : List (Option InstanceView)) (h : ℕ) (row : InstanceView) : Type 0 where
    pub all : AreSlots config id floor new
    pub there : row_at (all_read new) h ≡ Some row
    pub apart : AreApart h (all_read old) (all_read new)

  pub is_opened : (old room : List (Option InstanceView)) → AreSlots config id floor old
      → ((i : ℕ) → read_of room i ≡ read_of old i)
      → {rows : List InstanceView} (h : ℕ) → MayBeOpened floor rows h → (place : ℕ) → place ≡ h - floor → place < length room
      → (row : InstanceView) (initial : Value) → row ≡ opened_row config id h initial
      → IsOpened old (slice_set room place (Some row)) h row
  is_opened old room all each h may place at within row initial is =
      let here : h ≡ floor + place = omega (arith, at, may.kept) in
      let same = λ (i : ℕ) (x : InstanceView) (is : read_of room i ≡ Some x). all i x (sym (each i) ∙ is) in
      let after = slots_set room place row same within
      (ap (λ r. r.config) is, ap (λ r. r.id) is, ap (λ r. r.height) is ∙ here, subst (λ n. n ≤ max_height) here may.high) in
      record {
        all = after;
        there = ap (row_at (all_read (slice_set room place (Some row)))) here
            ∙ row_there config id floor (slice_set room place (Some row)) after place ∙ set_there room place (Some row) within;
        apart = others_apart old (slice_set room place (Some row)) all after h
            (λ other differs. set_elsewhere room place other (Some row) (λ e. differs (e ∙ at)) ∙ each other) may.kept;
      }
