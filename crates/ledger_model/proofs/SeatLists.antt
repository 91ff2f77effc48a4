-- Elements by index, and the element at each number.
use Rattle.std.proofs.Common.{◌≡◌, ◌≢◌, ◌⊎◌, inl, inr, ℕ, zero, suc, Bool, true, false, eqb, eq-eqb, ne_eqb, List, [], ◌∷◌, ◌++◌, length}
use Rattle.std.proofs.Common.{set, sym, refl, ap, subst, ⊎_elim}
use Rattle.std.specs.Prelude.{Some, slice_get, cond}
use mathlib.Core.Option.{some, some-injective, some-ne-none}
use lib.ListN.{get_elem?}

module _ {A : Type 0} where
  pub to_elem : (l : List A) (j : ℕ) (a : A) → slice_get l j ≡ Some a → get_elem? l j ≡ some a
  to_elem [] j a e = cc
  to_elem (x ∷ xs) zero a e = cc
  to_elem (x ∷ xs) (suc j) a e = to_elem xs j a e

  pub from_elem : (l : List A) (j : ℕ) (a : A) → get_elem? l j ≡ some a → slice_get l j ≡ Some a
  from_elem [] j a e = absurd (some-ne-none a (sym e))
  from_elem (x ∷ xs) zero a e = ap Some (some-injective x a e)
  from_elem (x ∷ xs) (suc j) a e = from_elem xs j a e

  -- an element of a list with one more is in the list, or is the last
  pub at_place : (l : List A) (a b : A) (j : ℕ) → get_elem? (l ++ a ∷ []) j ≡ some b → (get_elem? l j ≡ some b) ⊎ ((j ≡ length l) × (a ≡ b))
  at_place [] a b zero e = inr (refl, some-injective a b e)
  at_place [] a b (suc j) e = absurd (some-ne-none b (sym e))
  at_place (x ∷ xs) a b zero e = inl e
  at_place (x ∷ xs) a b (suc j) e = ⊎_elim (λ t. inl t) (λ (t : (j ≡ length xs) × (a ≡ b)). inr (ap suc t.0, t.1)) (at_place xs a b j e)

-- F holds of each element, with its place
abbrev pub Each : {A : Type 0} → (ℕ → A → Type 0) → List A → Type 0
Each {A} F l = (j : ℕ) (a : A) → get_elem? l j ≡ some a → F j a

-- it holds of each where one element is set, if it holds of that one and of the others: `at_set` separates these
pub each_set_by : {A : Type 0} (F : ℕ → A → Type 0) (l : List A) (i : ℕ) (w : A)
    → ((j : ℕ) (u : A) → get_elem? (set l i w) j ≡ some u → ((j ≡ i) × (w ≡ u)) ⊎ ((j ≢ i) × (get_elem? l j ≡ some u)))
    → F i w → ((j : ℕ) (u : A) → j ≢ i → get_elem? l j ≡ some u → F j u) → Each F (set l i w)
each_set_by {A} F l i w at_set mine others j u e =
    ⊎_elim (λ (x : (j ≡ i) × (w ≡ u)). subst (λ (y : ℕ × A). F y.0 y.1) (λ k. (sym x.0 k, x.1 k)) mine)
    (λ (x : (j ≢ i) × (get_elem? l j ≡ some u)). others j u x.0 x.1) (at_set j u e)

module _ {A : Type 0} (f : ℕ → A) (n : ℕ) where
  -- f, with this at n
  abbrev pub placed : A → ℕ → A
  placed a p = cond (eqb p n) a (f p)

  pub placed_here : (p : ℕ) (a : A) → p ≡ n → placed a p ≡ a
  placed_here p a e = ap (λ (b : Bool). cond b a (f p)) (eq-eqb p n e)

  pub placed_else : (p : ℕ) (a : A) → p ≢ n → placed a p ≡ f p
  placed_else p a e = ap (λ (b : Bool). cond b a (f p)) (ne_eqb p n e)

  -- what is at p already stays there
  pub placed_again : (p : ℕ) (a : A) → f p ≡ a → placed a p ≡ a
  placed_again p a e = elim (eqb p n) as (λ (b : Bool). cond b a (f p) ≡ a) [ true ↦ refl | false ↦ e ]
