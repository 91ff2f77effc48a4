-- Rows that ascend by height: each is found under its own.
use Rattle.std.proofs.Common.{◌≡◌, ℕ, ◌<◌, inl, inr, false, List, [], ◌∷◌, refl, subst, arith, eq-eqb}
use Rattle.std.specs.Prelude.{◌==◌, Some, None}
use Rattle.std.specs.List.{AllByRecursion}
use Rattle.std.proofs.lemmas.Bool.{cases_Bool, eqb-true, ne_eqb}
use Rattle.instance.specs.Instances.{InstanceView}
use Rattle.height_row.specs.Heights.{row_at, AreAscending}

-- what holds of each row holds of the one that is found
pub found_has : (P : InstanceView → Type 0) (rows : List InstanceView) (h : ℕ) (row : InstanceView) → AllByRecursion P rows
    → row_at rows h ≡ Some row → P row
found_has P [] h row all is = absurd (cc is)
found_has P (x ∷ xs) h row all is = elim (cases_Bool (x.height == h)) [
  | inl here ↦ (let same : x ≡ row = cc (rw here at is) in subst P same all.0)
  | inr there ↦ found_has P xs h row all.1 (rw there at is)
]

-- it is of that height
pub found_height : (rows : List InstanceView) (h : ℕ) (row : InstanceView) → row_at rows h ≡ Some row → row.height ≡ h
found_height [] h row is = absurd (cc is)
found_height (x ∷ xs) h row is = elim (cases_Bool (x.height == h)) [
  | inl here ↦ (let same : x ≡ row = cc (rw here at is) in subst (λ r. r.height ≡ h) same (eqb-true x.height h here))
  | inr there ↦ found_height xs h row (rw there at is)
]

-- where none is found each is of another height
pub none_found : (rows : List InstanceView) (h : ℕ) → row_at rows h ≡ None → AllByRecursion (λ row. (row.height == h) ≡ false) rows
none_found [] h none = tt
none_found (x ∷ xs) h none = elim (cases_Bool (x.height == h)) [
  | inl here ↦ absurd (cc (rw here at none))
  | inr there ↦ (there, none_found xs h (rw there at none))
]

-- rows above a height are of others
pub above_apart : (h : ℕ) (rows : List InstanceView) → AllByRecursion (λ later. h < later.height) rows
    → AllByRecursion (λ row. (row.height == h) ≡ false) rows
above_apart h [] above = tt
above_apart h (x ∷ xs) above = (let higher = above.0 in ne_eqb x.height h (λ e. omega (arith, e, higher)), above_apart h xs above.1)

-- what holds of each row that is found holds of each
pub each_found : (P : InstanceView → Type 0) (rows : List InstanceView) → AreAscending rows
    → ((h : ℕ) (row : InstanceView) → row_at rows h ≡ Some row → P row) → AllByRecursion P rows
each_found P [] ascend all = tt
each_found P (x ∷ xs) ascend all = (
  all x.height x (rw (eq-eqb x.height x.height refl) refl),
  each_found P xs ascend.1 (λ h row is.
      let of_height = found_height xs h row is in
      let above = found_has (λ later. x.height < later.height) xs h row ascend.0 is in
      all h row (rw (ne_eqb x.height h (λ e. omega (arith, e, of_height, above))) is)),
)
