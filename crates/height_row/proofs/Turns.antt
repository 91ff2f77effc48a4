-- The open heights are closed one after the other.
use Rattle.std.proofs.Common.{◌≡◌, ℕ, ◌+◌, ◌<◌, List, [], ◌∷◌, length, map, take, drop, ◌++◌, get_or, sym, ap, subst}
use Rattle.std.proofs.Common.{◌∙◌, arith, append_assoc, append-nil}
use Rattle.std.specs.Prelude.{Option, Some, None, slice_set}
use Rattle.std.proofs.Math.Seq.{take-append_seam}
use Rattle.std.specs.List.{AllByRecursion}
use Rattle.std.proofs.lemmas.List.{take_more_set, drop-set-lt}
use Rattle.std.proofs.lemmas.List.Elements.{filter_map-append}
use Rattle.ledger_model.specs.declared.config.Config.{Config}
use Rattle.tally.specs.Tallies.{all_read}
use Rattle.tally.proofs.Readings.{all_read_more}
use Rattle.instance.specs.declared.round_statement.RoundStatement.{RoundStatement}
use Rattle.instance.specs.Instances.{InstanceView}
use Rattle.instance.specs.Plans.{opened_effects, closed, IsOwnMade}
use Rattle.instance.specs.Reads.{IsSameHeight}
use Rattle.instance.proofs.SameHeight.{same_closed}
use Rattle.height_row.specs.declared.round_closing.RoundClosing.{RoundClosing}
use Rattle.height_row.specs.Heights.{closed_each}
use Rattle.height_row.specs.Closings.{AreClosings}
use Rattle.height_row.specs.Slots.{AreSlots}
use Rattle.height_row.proofs.HeightSlots.{all_left, slot_read}
use Rattle.height_row.proofs.OpenRows.{slots_put}

-- what is made in each
abbrev pub mades : List RoundClosing → List RoundStatement
mades xs = map (λ x. x.made) xs

-- where each ends as its height prepares, and makes nothing of another's, they are the heights' closings
pub are_closings : (config : Config) (c id : ℕ) (rows : List InstanceView) (xs : List RoundClosing)
    → map (λ x. x.ending) xs ≡ map (λ row. opened_effects row c) rows
    → AllByRecursion (λ row. (row.config ≡ config) × (row.id ≡ id)) rows → AllByRecursion (λ x. IsOwnMade config id x.made) xs
    → AreClosings c rows xs
are_closings config c id [] [] endings of own = tt
are_closings config c id [] (x ∷ xs) endings of own = absurd cc
are_closings config c id (row ∷ rows) [] endings of own = absurd cc
are_closings config c id (row ∷ rows) (x ∷ xs) endings of own =
    (cc, rw (of.0.0, of.0.1) own.0, are_closings config c id rows xs (cc) of.1 own.1)

-- ---- the slots before a place are closed

module _ (c : ℕ) where
  pub record IsClosing (old : List (Option InstanceView)) (xs : List RoundClosing) (now : List (Option InstanceView)) (place : ℕ)
      (left : List RoundClosing) : Type 0 where
    pub closings : AreClosings c (all_read (drop place now)) left
    pub closed : all_read (take place now) ++ closed_each c (all_read (drop place now)) (mades left)
        ≡ closed_each c (all_read old) (mades xs)
    pub slots : (config : Config) (id floor : ℕ) → AreSlots config id floor old → AreSlots config id floor now

  one_left : (rows : List InstanceView) (row : InstanceView) (left : List RoundClosing) → AreClosings c (row ∷ rows) left
      → 0 < length left
  one_left rows row [] are = absurd are
  one_left rows row (x ∷ xs) are = omega arith

  module _ (old : List (Option InstanceView)) (xs : List RoundClosing) (now : List (Option InstanceView)) (place : ℕ)
      (left : List RoundClosing) (so_far : IsClosing old xs now place left) (within : place < length now) where
    -- an empty slot
    pub passed : None ≡ get_or now place None → IsClosing old xs now (place + 1) left
    passed is =
        let rest : all_read (drop place now) ≡ all_read (drop (place + 1) now) = all_left now place None within is in
        record {
          closings = subst (λ rows. AreClosings c rows left) rest so_far.closings;
          closed =
              rw (all_read_more now place None within is, sym rest, append-nil) so_far.closed;
          slots = so_far.slots;
        }

    -- an open height has a closing
    pub has_closing : (row : InstanceView) → Some row ≡ get_or now place (Some row) → 0 < length left
    has_closing row is =
        one_left (all_read (drop (place + 1) now)) row left
        (subst (λ rows. AreClosings c rows left) (all_left now place (Some row) within is) so_far.closings)

    -- and is closed by it
    module _ (row : InstanceView) (is : Some row ≡ get_or now place (Some row)) (x : RoundClosing) (rest : List RoundClosing)
        (more : left ≡ x ∷ rest) where
      after : all_read (drop place now) ≡ row ∷ all_read (drop (place + 1) now)
      after = all_left now place (Some row) within is

      here : AreClosings c (row ∷ all_read (drop (place + 1) now)) (x ∷ rest)
      here = subst (λ rows. AreClosings c rows (x ∷ rest)) after (subst (AreClosings c (all_read (drop place now))) more so_far.closings)

      pub due : (x.ending ≡ opened_effects row c) × IsOwnMade row.config row.id x.made
      due = (here.0, here.1)

      pub closes : (new : InstanceView) → new ≡ closed row c x.ending x.made
          → IsClosing old xs (slice_set now place (Some new)) (place + 1) rest
      closes new then =
          let all = slice_set now place (Some new) in
          let taken : all_read (take (place + 1) all) ≡ all_read (take place now) ++ new ∷ [] =
          ap all_read (take_more_set now place (Some new) within) ∙ filter_map-append (λ slot. slot) (take place now) (Some new ∷ []) in
          let dropped : drop (place + 1) all ≡ drop (place + 1) now = drop-set-lt (place + 1) now place (Some new) (omega arith) in
          let was = rw (after, more) at so_far.closed in
          record {
            closings = rw dropped here.2;
            closed = rw (taken, dropped, append_assoc, then, here.0) was;
            slots = λ config id floor of.
                slots_put config id floor now place row new (so_far.slots config id floor of) within
                (slot_read now place (Some row) within is)
                (subst (IsSameHeight row) (sym (then ∙ ap (λ e. closed row c e x.made) here.0)) (same_closed row c x.made));
          }

-- what was written through a slice of all of a vector
pub written_back : {X : Type 0} {items now new : List X} {n : ℕ} → n ≡ length items → now ≡ items → length new ≡ length now
    → take n (new ++ drop (length new) items) ≡ new
written_back {X} {items} {now} {new} {n} counted all as_many =
    let full : n ≡ length new = counted ∙ sym (as_many ∙ ap length all) in
    rw full (take-append_seam new (drop (length new) items))
