-- The masks of the reports of a phase are right before the first report and after each, and say which reports find a value.
use Rattle.std.proofs.Common.{◌≡◌, ℕ, suc, ◌+◌, ◌*◌, ◌<◌, ◌≤◌, ◌^◌, true, false, ◌&&◌, ◌||◌, inl, inr, List, [], ◌∷◌, length}
use Rattle.std.proofs.Common.{refl, sym}
use Rattle.std.proofs.Common.{ap, subst, ◌∙◌, arith, length-append, length-set}
use Rattle.std.specs.Prelude.{Some, None, nat_eq, slice_get, slice_set, replicate, bit_and, bit_or}
use Rattle.std.specs.List.{list_any, list_all}
use Rattle.std.specs.Cmp.{both_ways}
use Rattle.std.specs.Option.{option_map_or}
use Rattle.std.proofs.lemmas.Bool.{and_parts, and_from, ne_eqb}
use Rattle.std.proofs.lemmas.List.{length-map}
use Rattle.ledger_model.specs.declared.statement.SignedReport.{SignedReport}
use Rattle.ledger_model.specs.Values.{Value, same_value}
use Rattle.ledger_model.specs.Locks.{names, finds}
use Rattle.ledger_model.proofs.Lists.{any_has, has_any, all_has, same_value-refl, same_value-equal}
use Rattle.tally.specs.Tallies.{Places, read_of}
use Rattle.tally.specs.Masks.{mask_of}
use Rattle.tally.specs.ReportMasks.{values_within, lists_proper, lists_lock, holds_none, holds_one, AreMasksOf, AreCounted, IsCountedWith}
use Rattle.tally.specs.ReportMasks.{with_bit, with_numbers, marked}
use Rattle.tally.specs.declared.report_counts.ReportCounts.{ReportCounts}
use Rattle.tally.specs.declared.reported_value.ValueMasks.{ValueMasks}
use Rattle.tally.proofs.MaskBits.{mask_same, mask_none, mask_put, mask_and, mask_or}
use Rattle.tally.proofs.Numbering.{with_numbers-few, values_with}
use Rattle.tally.proofs.Puts.{read_put, there_now, none_there, read_one_more, read_few}

-- ---- before the first report

pub counted_none : (n : ℕ) (counts : ReportCounts) → counts.values.items ≡ [] → (counts.all ≡ 0) × (counts.free ≡ 0) × (counts.single ≡ 0)
    → AreCounted (replicate n None) counts
counted_none n counts empty zeroes = record {
  signers = λ r s is. let none = none_there {X = SignedReport} n r in cc;
  values = record {
    each = λ e has. absurd (rw empty at has);
    every = λ r s is v within. let none = none_there {X = SignedReport} n r in cc;
    once = λ v. rw empty (omega arith);
  };
  all = zeroes.0 ∙ sym (mask_none (λ (s : SignedReport). s.report.all) n);
  free = zeroes.1 ∙ sym (mask_none holds_none n);
  single = zeroes.2 ∙ sym (mask_none holds_one n);
  few = rw empty (omega arith);
}

-- ---- one report more

pub counted_put : (old : Places SignedReport) (r : ℕ) (s : SignedReport) (counts after : ReportCounts) → r < length old
    → read_of old r ≡ None → s.report.signer ≡ r → length (values_within s.report) ≤ 9
    → AreCounted old counts → IsCountedWith (slice_set old r (Some s)) r s counts after
    → AreCounted (slice_set old r (Some s)) after
counted_put old r s counts after below none signer few h w = record {
  signers = λ q t is. elim (read_put old r q s t is) [
    | inl here ↦ ap (λ (u : SignedReport). u.report.signer) (sym here.1) ∙ signer ∙ sym here.0
    | inr earlier ↦ h.signers q t earlier
  ];
  values = rw w.values (values_with old r s below none counts.values.items h.values);
  all = w.all ∙ ap (λ m. with_bit m s.report.all (2 ^ r)) h.all ∙ sym (mask_put (λ (t : SignedReport). t.report.all) old r s below none);
  free = w.free ∙ ap (λ m. with_bit m (holds_none s) (2 ^ r)) h.free ∙ sym (mask_put holds_none old r s below none);
  single = w.single ∙ ap (λ m. with_bit m (holds_one s) (2 ^ r)) h.single ∙ sym (mask_put holds_one old r s below none);
  few =
      let new = slice_set old r (Some s) in
      let numbered = with_numbers new r (length (values_within s.report)) counts.values.items in
      let mapped = length-map numbered (marked new s (2 ^ r)) in
      let more = with_numbers-few new r (length (values_within s.report)) counts.values.items in
      let read = read_one_more old r s below none in
      rw w.values (omega (arith, mapped, more, read, h.few, few));
}

pub within_few : (s : SignedReport) → length s.report.proper ≤ 4 → length s.report.locked ≤ 4 → length (values_within s.report) ≤ 9
within_few s proper locked = omega (arith, proper, locked, length-append s.report.proper s.report.locked)

-- there is room for the values of a report that was put into an empty place
pub room_for : (old : Places SignedReport) (r : ℕ) (s t : SignedReport) (counts : ReportCounts) (capacity : ℕ) → r < length old
    → read_of old r ≡ None → length (values_within s.report) ≤ 9 → AreCounted old counts → 9 * length old ≤ capacity
    → read_of (slice_set old r (Some s)) r ≡ Some t → length counts.values.items + length (values_within t.report) ≤ capacity
room_for old r s t counts capacity below none few h room is =
    let same : s ≡ t = let now = there_now old r s below in cc in
    let one = read_one_more old r s below none in
    let all = read_few (slice_set old r (Some s)) in
    let long = length-set old r (Some s) in
    let within : length (values_within t.report) ≤ 9 = subst (λ (u : SignedReport). length (values_within u.report) ≤ 9) same few in
    omega (arith, one, all, long, within, h.few, room)

-- ---- which reports find a value

-- locks are on the value alone: there is none, or all are on one value, and one is on this one
only_locks : (v : Value) (locked : List Value)
    → (nat_eq (length locked) 0 || (option_map_or (λ w. list_all (same_value w) locked) (slice_get locked 0) false
    && list_any (same_value v) locked))
    ≡ list_all (same_value v) locked
only_locks v [] = refl
only_locks v (l ∷ ls) =
    ap (λ b. b || (list_all (same_value l) (l ∷ ls) && list_any (same_value v) (l ∷ ls))) (ne_eqb (suc (length ls)) 0 (λ e. omega arith))
    ∙ both_ways (list_all (same_value l) (l ∷ ls) && list_any (same_value v) (l ∷ ls)) (list_all (same_value v) (l ∷ ls))
    (λ e.
    let parts = and_parts (list_all (same_value l) (l ∷ ls)) (list_any (same_value v) (l ∷ ls)) e in
    let found = any_has (same_value v) (l ∷ ls) parts.1 in
    let same : l ≡ v = same_value-equal l found.0 (all_has (same_value l) (l ∷ ls) found.0 parts.0 found.1.0)
    ∙ sym (same_value-equal v found.0 found.1.1) in
    subst (λ w. list_all (same_value w) (l ∷ ls) ≡ true) same parts.0)
    (λ e.
    let same : v ≡ l = same_value-equal v l (all_has (same_value v) (l ∷ ls) l e (inl refl)) in
    and_from (list_all (same_value l) (l ∷ ls)) (list_any (same_value v) (l ∷ ls))
    (subst (λ w. list_all (same_value w) (l ∷ ls) ≡ true) same e)
    (has_any (same_value v) (l ∷ ls) l (inl refl) (ap (same_value v) (sym same) ∙ same_value-refl v)))

pub naming_mask : (places : Places SignedReport) (v : Value) (all : ℕ) (m : ValueMasks) → all ≡ mask_of (λ s. s.report.all) places
    → AreMasksOf places v m → bit_or all m.proper ≡ mask_of (λ s. names s.report v) places
naming_mask places v all m is masks = rw (is, masks.proper) (mask_or (λ s. s.report.all) (lists_proper v) places)

pub finding_mask : (places : Places SignedReport) (v : Value) (naming free single : ℕ) (m : ValueMasks)
    → naming ≡ mask_of (λ s. names s.report v) places → free ≡ mask_of holds_none places → single ≡ mask_of holds_one places
    → AreMasksOf places v m → bit_and naming (bit_or free (bit_and single m.locked)) ≡ mask_of (λ s. finds s.report v) places
finding_mask places v naming free single m named no_lock one_value masks =
    rw (named, no_lock, one_value, masks.locked)
    (ap (λ n. bit_and (mask_of (λ s. names s.report v) places) (bit_or (mask_of holds_none places) n)) (mask_and holds_one
    (lists_lock v) places)
    ∙ ap (bit_and (mask_of (λ s. names s.report v) places)) (mask_or holds_none (λ s. holds_one s && lists_lock v s) places)
    ∙ mask_and (λ s. names s.report v) (λ s. holds_none s || (holds_one s && lists_lock v s)) places
    ∙ mask_same (λ s. names s.report v && (holds_none s || (holds_one s && lists_lock v s))) (λ s. finds s.report v) places
    (λ r s is. ap (λ b. names s.report v && b) (only_locks v s.report.locked)))
