-- The rows of the heights from the floor on.
use Rattle.std.proofs.Common.{◌≡◌, ℕ, ◌<◌, ◌≤◌, inl, inr, List, [], ◌∷◌, refl, arith}
use Rattle.std.specs.Prelude.{◌==◌, nat_le, None}
use Rattle.std.proofs.lemmas.Bool.{cases_Bool, leb-true, leb-false, ne_eqb}
use Rattle.instance.specs.Instances.{InstanceView}
use Rattle.height_row.specs.Heights.{row_at, rows_from}

module _ (floor : ℕ) where
  -- none of a lower height is left
  pub none_below : (rows : List InstanceView) (h : ℕ) → h < floor → row_at (rows_from floor rows) h ≡ None
  none_below [] h low = refl
  none_below (row ∷ rows) h low = elim (cases_Bool (nat_le floor row.height)) [
    | inl kept ↦
        let above = leb-true floor row.height kept in
        rw (kept, ne_eqb row.height h (λ e. omega (arith, e, above))) (none_below rows h low)
    | inr gone ↦ rw gone (none_below rows h low)
  ]

  -- and the others are there
  pub same_from : (rows : List InstanceView) (h : ℕ) → floor ≤ h → row_at (rows_from floor rows) h ≡ row_at rows h
  same_from [] h high = refl
  same_from (row ∷ rows) h high = elim (cases_Bool (nat_le floor row.height)) [
    | inl kept ↦ elim (cases_Bool (row.height == h)) [
      | inl here ↦ rw (kept, here) refl
      | inr there ↦ rw (kept, there) (same_from rows h high)
    ]
    | inr gone ↦
        let below = leb-false floor row.height gone in
        rw (gone, ne_eqb row.height h (λ e. omega (arith, e, below))) (same_from rows h high)
  ]
