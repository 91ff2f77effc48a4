-- The numbered values that reports of others contain are all that those reports contain.
use Rattle.std.proofs.Common.{◌≡◌, ℕ, ◌+◌, ◌<◌, length, take, get_or, Bool, true, false, not, ◌&&◌, inl, inr, List, [], ◌∷◌, ◌++◌}
use Rattle.std.proofs.Common.{refl, sym, ap, subst, ◌∙◌, cond}
use Rattle.std.specs.Prelude.{◌==◌, Option, Some, None, filter}
use Rattle.std.specs.List.{list_any, list_all, filter_map, flat_map, cons_option}
use Rattle.std.specs.Cmp.{both_ways}
use Rattle.std.specs.Option.{option_map_or}
use Rattle.std.proofs.lemmas.Bool.{cases_Bool, and_parts, and_from, false≢true, not-true}
use Rattle.std.proofs.lemmas.List.Elements.{filter_map-append}
use Rattle.std.proofs.lemmas.List.Folds.{list_any-append}
use Rattle.ledger_model.specs.declared.config.Config.{Config}
use Rattle.ledger_model.specs.declared.statement.Report.{Report}
use Rattle.ledger_model.specs.declared.statement.SignedReport.{SignedReport}
use Rattle.ledger_model.specs.Notes.{Has}
use Rattle.ledger_model.specs.Values.{Value, same_value, with_value}
use Rattle.ledger_model.specs.Spelling.{are_ascending}
use Rattle.ledger_model.specs.Proper.{listed_by_other}
use Rattle.ledger_model.proofs.Lists.{any_has, has_any, all_has, all_from, has_cases, has_left, has_right, has_map, has_flat_map}
use Rattle.ledger_model.proofs.Lists.{filter_map_has, flat_map_has}
use Rattle.ledger_model.proofs.Lists.{has_filter, filter_has, has_filter_map, same_value-refl, same_value-equal, take_item}
use Rattle.ledger_model.proofs.Steps.{map_has}
use Rattle.tally.specs.Tallies.{Places, all_read}
use Rattle.tally.specs.ReportMasks.{values_within, begins_with, lists_proper, numbered_value, is_of, is_numbered, AreValuesOf}
use Rattle.tally.specs.Readings.{reports_of}
use Rattle.tally.specs.declared.reported_value.ReportedValue.{ReportedValue}
use Rattle.tally.proofs.Numbering.{there-is_of}
use Rattle.tally.proofs.Puts.{read_at}
use Rattle.proper_sets.specs.Numbers.{if_of_other, of_other, if_named, named, is_rare, is_common, initials_of_others}
use Rattle.proper_sets.specs.Propriety.{is_named_by, named_values}
use Rattle.proper_sets.specs.Puts.{with_values}
use Rattle.proper_sets.proofs.Orders.{ascending_same, with_values-append, with_values-ascending}

module _ (places : Places SignedReport) (values : List ReportedValue) (h : AreValuesOf places values) (id : ℕ) where
  -- another's report passes the test
  abbrev by_other : (Value → SignedReport → Bool) → Value → Bool
  by_other test v = list_any (λ s. not (s.report.signer == id) && test v s) (all_read places)

  -- what was read of another is at a number
  of_other_from : (test : Value → SignedReport → Bool) (e : ReportedValue) (v : Value) → of_other id test places e ≡ Some v
      → (s : SignedReport) × (Has (all_read places) s × ((not (s.report.signer == id) ≡ true) × (test v s ≡ true)))
  of_other_from test e v is = at (numbered_value places e) is
    where
      at : (o : Option Value) → if_of_other id test places o ≡ Some v
          → (s : SignedReport) × (Has (all_read places) s × ((not (s.report.signer == id) ≡ true) × (test v s ≡ true)))
      at None none = cc
      at (Some w) some =
          elim (cases_Bool (by_other test w)) [
            | inl read ↦
                (let same : w ≡ v = let found : Some w ≡ Some v = rw read at some in cc in
                let s = any_has (λ s. not (s.report.signer == id) && test v s) (all_read places) (subst (λ u. by_other test u
                ≡ true) same read) in
                let parts = and_parts (not (s.0.report.signer == id)) (test v s.0) s.1.1 in
                (s.0, (s.1.0, (parts.0, parts.1))))
            | inr no_other ↦ (let nothing : None ≡ Some v = rw no_other at some in cc)
          ]

  of_other_to : (test : Value → SignedReport → Bool) (s : SignedReport) (v : Value) → Has (all_read places) s
      → not (s.report.signer == id) ≡ true → test v s ≡ true → Has (values_within s.report) v
      → (e : ReportedValue) × (Has values e × (of_other id test places e ≡ Some v))
  unfolding is_numbered
  of_other_to test s v has other passes within =
      let place = read_at places s has in
      let e = any_has (is_of places v) values (h.every place.0 s place.1 v within) in
      let there = there-is_of places v e.0 e.1.1 in
      let yes : by_other test v ≡ true =
      has_any (λ t. not (t.report.signer == id) && test v t) (all_read places) s has
      (and_from (not (s.report.signer == id)) (test v s) other passes) in
      (e.0, (e.1.0, ap (if_of_other id test places) there ∙ ap (λ b. cond b (Some v) None) yes))

  -- ---- initial values

  abbrev others_initial : List Value
  others_initial = initials_of_others id places

  pub rare_by_numbers : (config : Config) (own : Value)
      → list_all (is_rare config id own places) others_initial ≡ not (list_any (is_common config id own places) values)
  rare_by_numbers config own =
      both_ways (list_all rare others_initial) (not (list_any common values))
      (λ all. elim (cases_Bool (list_any common values)) [
        | inl some ↦ (let e = any_has common values some in absurd (contradiction e.0 all (of_other id begins_with places e.0) refl e.1.1))
        | inr none ↦ ap not none
      ])
      (λ none. all_from rare others_initial (λ x has.
      let p = has_map (λ p. p.initial) (filter (λ p. not (p.signer == id)) (reports_of (all_read places))) x has in
      let f = filter_has (λ p. not (p.signer == id)) (reports_of (all_read places)) p.0 p.1.0 in
      let s = has_map (λ t. t.report) (all_read places) p.0 f.0 in
      let first : s.0.report.initial ≡ x = ap (λ (q : Report). q.initial) s.1.1 ∙ p.1.1 in
      let other : not (s.0.report.signer == id) ≡ true = ap (λ (q : Report). not (q.signer == id)) s.1.1 ∙ f.1 in
      let e = of_other_to begins_with s.0 x s.1.0 other (ap (same_value x) first ∙ same_value-refl x) (inl first) in
      elim (cases_Bool (rare x)) [
        | inl holds ↦ holds
        | inr no_rare ↦
            (let some : list_any common values ≡ true =
            has_any common values e.0 e.1.0
            (ap (λ o. option_map_or (λ v. not (rare v)) o false) e.1.1 ∙ ap not no_rare) in
            absurd (false≢true (ap not (sym some) ∙ none)))
      ]))
    where
      rare : Value → Bool
      rare = is_rare config id own places

      common : ReportedValue → Bool
      common = is_common config id own places

      contradiction : (e : ReportedValue) → list_all rare others_initial ≡ true → (o : Option Value) → of_other id begins_with places e ≡ o
          → common e ≡ true → ⊥
      contradiction e all None none is = false≢true (sym (ap (λ o. option_map_or (λ v. not (rare v)) o false) none) ∙ is)
      contradiction e all (Some v) some is =
          let s = of_other_from begins_with e v some in
          let first : s.0.report.initial ≡ v = sym (same_value-equal v s.0.report.initial s.1.1.1) in
          let has : Has others_initial v =
          subst (Has others_initial) first
          (map_has (λ p. p.initial) (filter (λ p. not (p.signer == id)) (reports_of (all_read places))) s.0.report
          (has_filter (λ p. not (p.signer == id)) (reports_of (all_read places)) s.0.report
          (map_has (λ t. t.report) (all_read places) s.0 s.1.0) s.1.1.0)) in
          let yes = all_has rare others_initial v all has in
          false≢true (sym (ap not yes) ∙ sym (ap (λ o. option_map_or (λ v. not (rare v)) o false) some) ∙ is)

  -- ---- named values

  among : (vs : List Value) (v : Value) → list_any (same_value v) vs ≡ true → Has vs v
  among vs v some =
      let found = any_has (same_value v) vs some in
      subst (λ x. Has vs x) (sym (same_value-equal v found.0 found.1.1)) found.1.0

  named_parts : (config : Config) (v : Value) (o : Option Value) → if_named config id places o ≡ Some v
      → (o ≡ Some v) × (is_named_by config id (reports_of (all_read places)) v ≡ true)
  named_parts config v None none = cc
  named_parts config v (Some w) some =
      elim (cases_Bool (is_named_by config id (reports_of (all_read places)) w)) [
        | inl named_w ↦
            (let same : Some w ≡ Some v = rw named_w at some in
            let is : w ≡ v = cc in
            (same, subst (λ u. is_named_by config id (reports_of (all_read places)) u ≡ true) is named_w))
        | inr unnamed ↦ (let nothing : None ≡ Some v = rw unnamed at some in cc)
      ]

  named_from : (config : Config) (v : Value) → Has (filter_map (named config id places) values) v
      → Has (named_values config id (reports_of (all_read places))) v
  named_from config v has =
      let e = filter_map_has (named config id places) values v has in
      let parts = named_parts config v (of_other id lists_proper places e.0) e.1.1 in
      let s = of_other_from lists_proper e.0 v parts.0 in
      let other : (s.0.report.signer == id) ≡ false = not-true (s.0.report.signer == id) s.1.1.0 in
      let listed : Has (listed_by_other id s.0.report) v = rw other (among s.0.report.proper v s.1.1.1) in
      has_filter (is_named_by config id (reports_of (all_read places))) (flat_map (listed_by_other id) (reports_of (all_read places))) v
      (has_flat_map (listed_by_other id) (reports_of (all_read places)) s.0.report v
      (map_has (λ t. t.report) (all_read places) s.0 s.1.0) listed) parts.1

  named_to : (config : Config) (v : Value) → Has (named_values config id (reports_of (all_read places))) v
      → Has (filter_map (named config id places) values) v
  named_to config v has =
      let f = filter_has (is_named_by config id (reports_of (all_read places))) (flat_map (listed_by_other id) (reports_of
      (all_read places))) v
      has in
      let p = flat_map_has (listed_by_other id) (reports_of (all_read places)) v f.0 in
      let s = has_map (λ t. t.report) (all_read places) p.0 p.1.0 in
      let listed : Has (listed_by_other id s.0.report) v = subst (λ (q : Report). Has (listed_by_other id q) v) (sym s.1.1) p.1.1 in
      elim (cases_Bool (s.0.report.signer == id)) [
        | inl own ↦ (let none : Has [] v = rw own at listed in absurd none)
        | inr other ↦
            (let proper : Has s.0.report.proper v = rw other at listed in
            let e = of_other_to lists_proper s.0 v s.1.0 (ap not other)
            (has_any (same_value v) s.0.report.proper v proper (same_value-refl v))
            (inr (has_left s.0.report.proper s.0.report.locked v proper)) in
            has_filter_map (named config id places) values e.0 v e.1.0
            (ap (if_named config id places) e.1.1 ∙ ap (λ b. cond b (Some v) None) f.1))
      ]

  pub named_by_numbers : (config : Config) (old : List Value) → are_ascending old ≡ true
      → with_values (filter_map (named config id places) values) old
      ≡ with_values (named_values config id (reports_of (all_read places))) old
  named_by_numbers config old ascend =
      with_values-ascending (filter_map (named config id places) values) old ascend
      ∙ ascending_same (old ++ filter_map (named config id places) values) (old ++ named_values config id (reports_of (all_read places)))
      (λ x has. elim (has_cases old (filter_map (named config id places) values) x has) [
        | inl before ↦ has_left old (named_values config id (reports_of (all_read places))) x before
        | inr new ↦ has_right old (named_values config id (reports_of (all_read places))) x (named_from config x new)
      ])
      (λ x has. elim (has_cases old (named_values config id (reports_of (all_read places))) x has) [
        | inl before ↦ has_left old (filter_map (named config id places) values) x before
        | inr new ↦ has_right old (filter_map (named config id places) values) x (named_to config x new)
      ])
      ∙ sym (with_values-ascending (named_values config id (reports_of (all_read places))) old ascend)

-- ---- one number more

-- the values, with one that may be there
abbrev pub with_option : Option Value → List Value → List Value
with_option None vs = vs
with_option (Some v) vs = with_value v vs

pub named_more : (config : Config) (id : ℕ) (places : Places SignedReport) (values : List ReportedValue) (i : ℕ) (e : ReportedValue)
    (old now : List Value) → i < length values → e ≡ get_or values i e
    → now ≡ with_values (filter_map (named config id places) (take i values)) old
    → with_values (filter_map (named config id places) (take (i + 1) values)) old ≡ with_option (named config id places e) now
named_more config id places values i e old now below is so_far =
    ap (λ es. with_values (filter_map (named config id places) es) old) (take_item values i e below is)
    ∙ ap (λ vs. with_values vs old) (filter_map-append (named config id places) (take i values) (e ∷ []))
    ∙ with_values-append (filter_map (named config id places) (take i values)) (cons_option (named config id places e) []) old
    ∙ ap (with_values (cons_option (named config id places e) [])) (sym so_far)
    ∙ last (named config id places e)
  where
    last : (o : Option Value) → with_values (cons_option o []) now ≡ with_option o now
    last None = refl
    last (Some v) = refl

pub none_more : {X : Type 0} (test : X → Bool) (xs : List X) (i : ℕ) (x : X) → i < length xs → x ≡ get_or xs i x
    → list_any test (take i xs) ≡ false → test x ≡ false → list_any test (take (i + 1) xs) ≡ false
none_more test xs i x below is before here =
    ap (list_any test) (take_item xs i x below is) ∙ list_any-append test (take i xs) (x ∷ []) ∙ rw (before, here) refl
