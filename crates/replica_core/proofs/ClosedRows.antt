-- The open heights after a round opened: the same heights, in the same order.
use Rattle.std.proofs.Common.{◌≡◌, ℕ, ◌<◌, inl, inr, false, List, [], ◌∷◌, refl, sym, ap, subst, ◌∙◌}
use Rattle.std.specs.Prelude.{◌==◌, None}
use Rattle.std.specs.List.{AllByRecursion}
use Rattle.std.proofs.lemmas.Bool.{cases_Bool}
use Rattle.instance.specs.declared.round_statement.RoundStatement.{RoundStatement}
use Rattle.instance.specs.Instances.{InstanceView}
use Rattle.instance.specs.Plans.{opened_effects, closed}
use Rattle.instance.proofs.SameHeight.{same_closed}
use Rattle.height_row.specs.Heights.{row_at, AreAscending, closed_each}

module _ (c : ℕ) where
  -- a height that is not open is not then
  pub none_closed : (h : ℕ) (rows : List InstanceView) (ms : List RoundStatement) → row_at rows h ≡ None
      → row_at (closed_each c rows ms) h ≡ None
  none_closed h [] ms none = refl
  none_closed h (row ∷ rows) [] none = none
  none_closed h (row ∷ rows) (m ∷ ms) none = elim (cases_Bool (row.height == h)) [
    | inl here ↦ absurd (cc (rw here at none))
    | inr there ↦
        let other : ((closed row c (opened_effects row c) m).height == h) ≡ false = ap (λ n. n == h) (same_closed row c m).height ∙ there in
        rw other (none_closed h rows ms (rw there at none))
  ]

  -- what holds of each height holds of each then
  each_closed : (P : ℕ → Type 0) (rows : List InstanceView) (ms : List RoundStatement) → AllByRecursion (λ row. P row.height) rows
      → AllByRecursion (λ row. P row.height) (closed_each c rows ms)
  each_closed P [] ms all = tt
  each_closed P (row ∷ rows) [] all = all
  each_closed P (row ∷ rows) (m ∷ ms) all = (subst P (sym (same_closed row c m).height) all.0, each_closed P rows ms all.1)

  -- they ascend
  pub ascend_closed : (rows : List InstanceView) (ms : List RoundStatement) → AreAscending rows → AreAscending (closed_each c rows ms)
  ascend_closed [] ms ascend = tt
  ascend_closed (row ∷ rows) [] ascend = ascend
  ascend_closed (row ∷ rows) (m ∷ ms) ascend = (
    subst (λ n. AllByRecursion (λ later. n < later.height) (closed_each c rows ms)) (sym (same_closed row c m).height)
        (each_closed (λ n. row.height < n) rows ms ascend.0),
    ascend_closed rows ms ascend.1,
  )
