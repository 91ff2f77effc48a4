-- A quorum's reports find the chosen value; if nothing is chosen, they find nothing.
use Rattle.std.proofs.Common.{◌≡◌, Bool, true, false, ◌⊎◌, inl, inr, List, [], ◌∷◌, ◌++◌, refl, sym, ◌∙◌, arith, subst, leb-true, leb-false}
use Rattle.std.specs.Prelude.{filter, Option, Some, None, IfSome, IfNone, ◌||◌, ◌&&◌}
use Rattle.std.specs.List.{list_any, list_all}
use Rattle.std.proofs.lemmas.Bool.{false≢true, and_parts, cases_Bool}
use Rattle.ledger_model.specs.declared.config.Config.{Config}
use Rattle.ledger_model.specs.declared.statement.Report.{Report}
use Rattle.ledger_model.specs.Values.{Value, same_value, ascending}
use Rattle.ledger_model.specs.Notes.{Has}
use Rattle.ledger_model.specs.Rounds.{quorum}
use Rattle.ledger_model.specs.Locks.{names, finds}
use Rattle.tally.specs.Tallies.{count_where}
use Rattle.phase_core.specs.Choices.{is_found_by, first_value, chosen}
use Rattle.ledger_model.proofs.Lists.{any_has, filter_has, has_filter, has_ascending, ascending_has, has_left, has_right, has_flat_map}
use Rattle.ledger_model.proofs.Lists.{same_value-equal}
use Rattle.phase_core.specs.Least.{values_named}
use Rattle.phase_core.proofs.Counts.{passes_alone}

-- the first of a list is one of it
first_has : (vs : List Value) (v : Value) → first_value vs ≡ Some v → Has vs v
first_has [] v e = cc
first_has (w ∷ vs) v e = inl cc

none_first : (vs : List Value) (v : Value) → first_value vs ≡ None → Has vs v → ⊥
none_first [] v e h = h
none_first (w ∷ vs) v e h = cc

pub chosen_own : (config : Config) (reports : List Report) (own : Value) → is_found_by config reports own ≡ true
    → chosen config reports own ≡ Some own
unfolding chosen
chosen_own config reports own e = simp e refl

pub chosen_other : (config : Config) (reports : List Report) (own : Value) → is_found_by config reports own ≡ false
    → chosen config reports own ≡ first_value (filter (is_found_by config reports) (ascending (values_named reports)))
unfolding chosen
chosen_other config reports own e = simp e refl

-- the first that is found is found
first_found : (config : Config) (reports : List Report) (v : Value)
    → first_value (filter (is_found_by config reports) (ascending (values_named reports))) ≡ Some v → is_found_by config reports v ≡ true
first_found config reports v e =
    (filter_has (is_found_by config reports) (ascending (values_named reports)) v
    (first_has (filter (is_found_by config reports) (ascending (values_named reports))) v e)).1

-- what finds v and not own lists v, or holds a lock on it
told : (all : Bool) (proper locked : List Value) (v own : Value) → (all || list_any (same_value v) proper) ≡ true
    → list_all (same_value v) locked ≡ true
    → ((all || list_any (same_value own) proper) && list_all (same_value own) locked) ≡ false → Has (proper ++ locked) v
told all proper (l ∷ ls) v own named only other =
    has_right proper (l ∷ ls) v (inl (sym (same_value-equal v l ((and_parts (same_value v l) (list_all (same_value v) ls) only).0))))
told true proper [] v own named only other = absurd (false≢true (sym other))
told false proper [] v own named only other =
    let r = any_has (same_value v) proper named in
    has_left proper [] v (subst (λ x. Has proper x) (sym (same_value-equal v (r.0) (r.1.1))) (r.1.0))

-- v is found by enough, and own is not: then some report has v
found_is_named : (config : Config) (reports : List Report) (own v : Value) → is_found_by config reports own ≡ false
    → is_found_by config reports v ≡ true → Has (values_named reports) v
found_is_named config reports own v fails passes =
    let few = leb-false (quorum config) (count_where (λ p. finds p own) reports) fails in
    let many = leb-true (quorum config) (count_where (λ p. finds p v) reports) passes in
    let r = passes_alone (λ p. finds p v) (λ p. finds p own) reports (omega (arith, few, many)) in
    let p = r.0 in
    let parts = and_parts (names p v) (list_all (same_value v) p.locked) (r.1.1.0) in
    has_flat_map (λ q. q.proper ++ q.locked) reports p v (r.1.0) (told p.all p.proper p.locked v own (parts.0) (parts.1) (r.1.1.1))

-- if no value of a report is found, none is found at all
none_found : (config : Config) (reports : List Report) (own : Value) → is_found_by config reports own ≡ false
    → first_value (filter (is_found_by config reports) (ascending (values_named reports))) ≡ None → (v : Value)
    → is_found_by config reports v ≡ false
none_found config reports own fails none v =
    elim (cases_Bool (is_found_by config reports v)) [
      | inr e ↦ e
      | inl e ↦ absurd (none_first (filter (is_found_by config reports) (ascending (values_named reports))) v none
          (has_filter (is_found_by config reports) (ascending (values_named reports)) v
          (has_ascending (values_named reports) v (found_is_named config reports own v fails e)) e))
    ]

-- ---- what is chosen

module _ (config : Config) (reports : List Report) (own : Value) where
  -- it is found by enough
  pub chosen_found : (v : Value) → chosen config reports own ≡ Some v → is_found_by config reports v ≡ true
  chosen_found v e =
      elim (cases_Bool (is_found_by config reports own)) [
        | inl found ↦ (let s = chosen_own config reports own found in let same : own ≡ v =
            cc in subst (λ w. is_found_by config reports w ≡ true) same found)
        | inr fails ↦ first_found config reports v (sym (chosen_other config reports own fails) ∙ e)
      ]

  -- where nothing is chosen, nothing is found
  pub none_chosen : chosen config reports own ≡ None → (v : Value) → is_found_by config reports v ≡ false
  none_chosen e v =
      elim (cases_Bool (is_found_by config reports own)) [
        | inl found ↦ (let s = chosen_own config reports own found in cc)
        | inr fails ↦ none_found config reports own fails (sym (chosen_other config reports own fails) ∙ e) v
      ]

  -- it is the own value, or a report has it
  pub chosen_named : (v : Value) → chosen config reports own ≡ Some v → (own ≡ v) ⊎ Has (values_named reports) v
  chosen_named v e =
      elim (cases_Bool (is_found_by config reports own)) [
        | inl found ↦ (let s = chosen_own config reports own found in inl cc)
        | inr fails ↦
            let first : first_value (filter (is_found_by config reports) (ascending (values_named reports))) ≡ Some v =
            sym (chosen_other config reports own fails) ∙ e in
            let listed = first_has (filter (is_found_by config reports) (ascending (values_named reports))) v first in
            inr (ascending_has (values_named reports) v
            (filter_has (is_found_by config reports) (ascending (values_named reports)) v listed).0)
      ]

  -- the same of an option
  pub found_if_some : (o : Option Value) → o ≡ chosen config reports own → IfSome o (λ v. is_found_by config reports v ≡ true)
  found_if_some None e = tt
  found_if_some (Some v) e = chosen_found v (sym e)

  pub none_if_none : (o : Option Value) → o ≡ chosen config reports own → IfNone o ((v : Value) → is_found_by config reports v ≡ false)
  none_if_none None e = none_chosen (sym e)
  none_if_none (Some v) e = tt
