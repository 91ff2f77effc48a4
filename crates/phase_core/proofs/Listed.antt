-- The numbered values that reports list as proper or as locked are all that reports name so, and are found by the ones of a mask.
use Rattle.std.proofs.Common.{◌≡◌, ℕ, ◌+◌, ◌<◌, Bool, true, false, not, ◌&&◌, inl, inr, List, [], ◌∷◌, ◌++◌, length}
use Rattle.std.proofs.Common.{take, get_or, refl, sym, ap}
use Rattle.std.proofs.Common.{subst, ◌∙◌, cond}
use Rattle.std.specs.Prelude.{Option, Some, None, nat_eq, nat_le, count_ones}
use Rattle.std.specs.List.{list_any, filter_map, cons_option}
use Rattle.std.proofs.lemmas.Bool.{cases_Bool}
use Rattle.std.proofs.lemmas.List.{take_more}
use Rattle.std.proofs.lemmas.List.Elements.{filter_map-append}
use Rattle.ledger_model.specs.declared.config.Config.{Config}
use Rattle.ledger_model.specs.declared.statement.Report.{Report}
use Rattle.ledger_model.specs.declared.statement.SignedReport.{SignedReport}
use Rattle.ledger_model.specs.Notes.{Has}
use Rattle.ledger_model.specs.Values.{Value, same_value}
use Rattle.ledger_model.specs.Rounds.{quorum}
use Rattle.ledger_model.specs.Locks.{finds}
use Rattle.ledger_model.proofs.Lists.{any_has, has_any, has_cases, has_left, has_right, has_map, has_flat_map, flat_map_has, has_filter_map}
use Rattle.ledger_model.proofs.Lists.{filter_map_has, same_value-refl, same_value-equal}
use Rattle.ledger_model.proofs.Steps.{map_has}
use Rattle.tally.specs.Tallies.{Places, all_read}
use Rattle.tally.specs.Masks.{mask_of}
use Rattle.tally.specs.Readings.{reports_of}
use Rattle.tally.specs.ReportMasks.{lists_proper, lists_lock, numbered_value, is_of, is_numbered, AreMasksOf, IsReported, AreValuesOf}
use Rattle.tally.specs.declared.reported_value.ReportedValue.{ReportedValue}
use Rattle.tally.proofs.MaskBits.{mask_any, mask_ones}
use Rattle.tally.proofs.Numbering.{there-is_of}
use Rattle.tally.proofs.Puts.{read_at}
use Rattle.phase_core.specs.Choices.{is_found_by}
use Rattle.phase_core.specs.Least.{least_with, least_of, values_named, listed, if_found, found}
use Rattle.phase_core.proofs.Counts.{count_signed}
use Rattle.phase_core.proofs.Least.{least_of-append, least_same}

-- a quorum finds the value exactly if the mask of the reports that find it has the ones of a quorum
pub found_by_ones : (config : Config) (places : Places SignedReport) (v : Value)
    → nat_le (quorum config) (count_ones (mask_of (λ s. finds s.report v) places)) ≡ is_found_by config (reports_of (all_read places)) v
found_by_ones config places v =
    ap (nat_le (quorum config)) (mask_ones (λ s. finds s.report v) places ∙ count_signed (λ p. finds p v) (all_read places))

module _ (places : Places SignedReport) (e : ReportedValue) where
  value_listed : (v : Value) → listed places e ≡ Some v → numbered_value places e ≡ Some v
  value_listed v =
      elim (nat_eq e.masks.proper 0 && nat_eq e.masks.locked 0) as (λ b. cond b None (numbered_value places e) ≡ Some v → numbered_value places e
      ≡ Some v) [
        | true ↦ λ none. cc
        | false ↦ λ is. is
      ]

  masks_there : (v : Value) → IsReported places places e → numbered_value places e ≡ Some v → AreMasksOf places v e.masks
  masks_there v k there =
      let same : k.value ≡ v = let is = k.is_there in cc in
      subst (λ w. AreMasksOf places w e.masks) same k.masks

  -- a listed value is found if the mask of the reports that find it has the ones of a quorum
  pub found_is : (config : Config) (v : Value) (mask : ℕ) → IsReported places places e → listed places e ≡ Some v
      → ((u : Value) → AreMasksOf places u e.masks → mask ≡ mask_of (λ s. finds s.report u) places)
      → found config places e ≡ cond (nat_le (quorum config) (count_ones mask)) (Some v) None
  found_is config v mask k is finding =
      ap (if_found config places) is
      ∙ ap (λ b. cond b (Some v) None)
      (sym (ap (λ m. nat_le (quorum config) (count_ones m)) (finding v (masks_there v k (value_listed v is)))
      ∙ found_by_ones config places v))

module _ (places : Places SignedReport) (values : List ReportedValue) (h : AreValuesOf places values) where
  -- some report lists the value as proper, or as locked
  abbrev is_proper : Value → Bool
  is_proper v = list_any (lists_proper v) (all_read places)

  abbrev is_locked : Value → Bool
  is_locked v = list_any (lists_lock v) (all_read places)

  listed_is : (e : ReportedValue) (v : Value) → Has values e → numbered_value places e ≡ Some v
      → listed places e ≡ cond (not (is_proper v) && not (is_locked v)) None (Some v)
  listed_is e v has there =
      let masks = masks_there places e v (h.each e has) there in
      ap (λ b. cond (b && nat_eq e.masks.locked 0) None (numbered_value places e))
      (ap (λ n. nat_eq n 0) masks.proper ∙ mask_any (lists_proper v) places)
      ∙ ap (λ b. cond (not (is_proper v) && b) None (numbered_value places e)) (ap (λ n. nat_eq n 0) masks.locked
      ∙ mask_any (lists_lock v) places)
      ∙ ap (cond (not (is_proper v) && not (is_locked v)) None) there

  -- a value that one of some lists has is named by a report
  in_report : (s : SignedReport) (v : Value) → Has (all_read places) s → Has (s.report.proper ++ s.report.locked) v
      → Has (values_named (reports_of (all_read places))) v
  in_report s v has within =
      has_flat_map (λ p. p.proper ++ p.locked) (reports_of (all_read places)) s.report v
      (map_has (λ t. t.report) (all_read places) s has) within

  among : (vs : List Value) (v : Value) → list_any (same_value v) vs ≡ true → Has vs v
  among vs v some =
      let found = any_has (same_value v) vs some in
      subst (λ x. Has vs x) (sym (same_value-equal v found.0 found.1.1)) found.1.0

  -- a value that is listed is named by a report
  listed_named : (v : Value) → Has (filter_map (listed places) values) v → Has (values_named (reports_of (all_read places))) v
  listed_named v has =
      let e = filter_map_has (listed places) values v has in
      let is = listed_is e.0 v e.1.0 (value_listed places e.0 v e.1.1) in
      elim (cases_Bool (is_proper v)) [
        | inl proper ↦
            (let s = any_has (lists_proper v) (all_read places) proper in
            in_report s.0 v s.1.0 (has_left s.0.report.proper s.0.report.locked v (among s.0.report.proper v s.1.1)))
        | inr other ↦ elim (cases_Bool (is_locked v)) [
          | inl locked ↦
              (let s = any_has (lists_lock v) (all_read places) locked in
              in_report s.0 v s.1.0 (has_right s.0.report.proper s.0.report.locked v (among s.0.report.locked v s.1.1)))
          | inr none ↦
              (let nothing : listed places e.0 ≡ None = rw (other, none) at is in let some = e.1.1 in cc)
        ]
      ]

  -- a value that a report names is listed
  named_listed : (v : Value) → Has (values_named (reports_of (all_read places))) v → Has (filter_map (listed places) values) v
  unfolding is_numbered
  named_listed v has =
      let p = flat_map_has (λ q. q.proper ++ q.locked) (reports_of (all_read places)) v has in
      let s = has_map (λ t. t.report) (all_read places) p.0 p.1.0 in
      let within : Has (s.0.report.proper ++ s.0.report.locked) v =
      subst (λ (q : Report). Has (q.proper ++ q.locked) v) (sym s.1.1) p.1.1 in
      let place = read_at places s.0 s.1.0 in
      let e = any_has (is_of places v) values (h.every place.0 s.0 place.1 v (inr within)) in
      let is = listed_is e.0 v e.1.0 (there-is_of places v e.0 e.1.1) in
      has_filter_map (listed places) values e.0 v e.1.0
      (is ∙ elim (has_cases s.0.report.proper s.0.report.locked v within) [
        | inl proper ↦
            (let some : is_proper v ≡ true =
            has_any (lists_proper v) (all_read places) s.0 s.1.0 (has_any (same_value v) s.0.report.proper v proper (same_value-refl v)) in
            rw some refl)
        | inr locked ↦
            (let some : is_locked v ≡ true =
            has_any (lists_lock v) (all_read places) s.0 s.1.0 (has_any (same_value v) s.0.report.locked v locked (same_value-refl v)) in
            rw some (elim (is_proper v) as (λ b. cond (not b && false) None (Some v) ≡ Some v) [ true ↦ refl | false ↦ refl ]))
      ])

  pub least_listed : (test : Value → Bool)
      → least_of test None (filter_map (listed places) values) ≡ least_of test None (values_named (reports_of (all_read places)))
  least_listed test =
      least_same test (filter_map (listed places) values) (values_named (reports_of (all_read places))) listed_named named_listed

-- the lesser of what was found before, and a value that may be found
abbrev pub with_found : Option Value → Option Value → Option Value
with_found before None = before
with_found before (Some v) = least_with before v

-- what is found at a number is found among the listed values
found_alone : (config : Config) (places : Places SignedReport) (before listed_value : Option Value)
    → least_of (is_found_by config (reports_of (all_read places))) before (cons_option listed_value [])
    ≡ with_found before (if_found config places listed_value)
found_alone config places before None = refl
found_alone config places before (Some v) =
    elim (is_found_by config (reports_of (all_read places)) v) as
    (λ b. cond b (least_with before v) before ≡ with_found before (cond b (Some v) None)) [ true ↦ refl | false ↦ refl ]

-- the least found one number further
pub least_more : (config : Config) (places : Places SignedReport) (values : List ReportedValue) (i : ℕ) (e : ReportedValue)
    (before : Option Value) → i < length values → e ≡ get_or values i e
    → before ≡ least_of (is_found_by config (reports_of (all_read places))) None (filter_map (listed places) (take i values))
    → least_of (is_found_by config (reports_of (all_read places))) None (filter_map (listed places) (take (i + 1) values))
    ≡ with_found before (found config places e)
least_more config places values i e before below is so_far =
    let test = is_found_by config (reports_of (all_read places)) in
    ap (λ vs. least_of test None (filter_map (listed places) vs)) (take_more values i e below)
    ∙ ap (least_of test None) (filter_map-append (listed places) (take i values) (get_or values i e ∷ []))
    ∙ least_of-append test None (filter_map (listed places) (take i values)) (cons_option (listed places (get_or values i e)) [])
    ∙ ap (λ x. least_of test (least_of test None (filter_map (listed places) (take i values))) (cons_option (listed places x) [])) (sym is)
    ∙ ap (λ o. least_of test o (cons_option (listed places e) [])) (sym so_far)
    ∙ found_alone config places before (listed places e)
