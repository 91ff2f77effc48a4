-- The nearest of some rounds.
use Rattle.std.proofs.Common.{◌≡◌, ◌∙◌, ℕ, ◌<◌, ◌≤◌, List, [], ◌∷◌, refl, ap, ◌⊎◌, inl, inr, true, false, arith}
use Rattle.std.specs.Prelude.{Some, None, max, min, nat_le, filter}
use Rattle.std.specs.List.{fold, reduce}
use Rattle.std.specs.Option.{option_or}
use Rattle.ledger_model.specs.Notes.{Has}
use Rattle.ledger_model.proofs.Lists.{has_filter, filter_has, filter_none, each_from}
use Rattle.run_picture.specs.Incoming.{IsNoFarther}
use Rattle.run_picture.specs.Sources.{nearest_round}

-- ---- the greatest and the least of some numbers

max_below : (a x m : ℕ) → a ≤ m → x ≤ m → max a x ≤ m
max_below a x m ha hx = grind (arith)

max_is : (a x m : ℕ) → a ≤ m → x ≤ m → (a ≡ m) ⊎ (x ≡ m) → max a x ≡ m
max_is a x m ha hx h = grind (arith)

min_above : (a x m : ℕ) → m ≤ a → m ≤ x → m ≤ min a x
min_above a x m ha hx = grind (arith)

min_is : (a x m : ℕ) → m ≤ a → m ≤ x → (a ≡ m) ⊎ (x ≡ m) → min a x ≡ m
min_is a x m ha hx h = grind (arith)

fold_max : (a m : ℕ) (xs : List ℕ) → a ≤ m → ((x : ℕ) → Has xs x → x ≤ m) → (a ≡ m) ⊎ Has xs m → fold max a xs ≡ m
fold_max a m [] below all (inl is) = is
fold_max a m [] below all (inr h) = absurd h
fold_max a m (x ∷ xs) below all (inl is) =
    fold_max (max a x) m xs (max_below a x m below (all x (inl refl))) (λ y h. all y (inr h))
    (inl (max_is a x m below (all x (inl refl)) (inl is)))
fold_max a m (x ∷ xs) below all (inr (inl is)) =
    fold_max (max a x) m xs (max_below a x m below (all x (inl refl))) (λ y h. all y (inr h))
    (inl (max_is a x m below (all x (inl refl)) (inr is)))
fold_max a m (x ∷ xs) below all (inr (inr later)) =
    fold_max (max a x) m xs (max_below a x m below (all x (inl refl))) (λ y h. all y (inr h)) (inr later)

greatest_is : (m : ℕ) (xs : List ℕ) → Has xs m → ((x : ℕ) → Has xs x → x ≤ m) → reduce max xs ≡ Some m
greatest_is m [] h all = absurd h
greatest_is m (x ∷ xs) h all = ap (λ (n : ℕ). Some n) (fold_max x m xs (all x (inl refl)) (λ y later. all y (inr later)) h)

fold_min : (a m : ℕ) (xs : List ℕ) → m ≤ a → ((x : ℕ) → Has xs x → m ≤ x) → (a ≡ m) ⊎ Has xs m → fold min a xs ≡ m
fold_min a m [] above all (inl is) = is
fold_min a m [] above all (inr h) = absurd h
fold_min a m (x ∷ xs) above all (inl is) =
    fold_min (min a x) m xs (min_above a x m above (all x (inl refl))) (λ y h. all y (inr h))
    (inl (min_is a x m above (all x (inl refl)) (inl is)))
fold_min a m (x ∷ xs) above all (inr (inl is)) =
    fold_min (min a x) m xs (min_above a x m above (all x (inl refl))) (λ y h. all y (inr h))
    (inl (min_is a x m above (all x (inl refl)) (inr is)))
fold_min a m (x ∷ xs) above all (inr (inr later)) =
    fold_min (min a x) m xs (min_above a x m above (all x (inl refl))) (λ y h. all y (inr h)) (inr later)

least_is : (m : ℕ) (xs : List ℕ) → Has xs m → ((x : ℕ) → Has xs x → m ≤ x) → reduce min xs ≡ Some m
least_is m [] h all = absurd h
least_is m (x ∷ xs) h all = ap (λ (n : ℕ). Some n) (fold_min x m xs (all x (inl refl)) (λ y later. all y (inr later)) h)

-- ---- the nearest round

up_to_or_later : (r c : ℕ) → (r ≤ c) ⊎ (c < r)
up_to_or_later r c = grind (arith)

is_up_to : (r c : ℕ) → r ≤ c → nat_le r c ≡ true
is_up_to r c h = grind (arith)

is_later : (r c : ℕ) → c < r → nat_le r c ≡ false
is_later r c h = grind (arith)

from_up_to : (r c : ℕ) → nat_le r c ≡ true → r ≤ c
from_up_to r c h = grind (arith)

-- a round than which none is nearer is the nearest
pub nearest_is : (c b : ℕ) (rounds : List ℕ) → Has rounds b → ((r : ℕ) → Has rounds r → IsNoFarther c b r) → nearest_round c rounds ≡ Some b
nearest_is c b rounds there near = elim (up_to_or_later b c) [
  | inl up_to ↦
      let greatest : reduce max (filter (λ r. nat_le r c) rounds) ≡ Some b =
      greatest_is b (filter (λ r. nat_le r c) rounds) (has_filter (λ r. nat_le r c) rounds b there (is_up_to b c up_to))
      (λ r h. let passes = filter_has (λ r. nat_le r c) rounds r h in ((near r passes.0).up_to (from_up_to r c passes.1)).0) in
      ap (λ o. option_or o (reduce min rounds)) greatest
  | inr later ↦
      let none : filter (λ r. nat_le r c) rounds ≡ [] =
      filter_none (λ r. nat_le r c) rounds (each_from (λ r. nat_le r c ≡ false) rounds (λ r h. is_later r c (after r h later))) in
      ap (λ rs. option_or (reduce max rs) (reduce min rounds)) none
      ∙ least_is b rounds there (λ r h. (near r h).later (after r h later))
]
  where
    late : (r : ℕ) → c < b → ((r ≤ c) → (r ≤ b) × (b ≤ c)) → c < r
    late r later up = elim (up_to_or_later r c) [ inl h ↦ absurd (let below = up h in omega (arith, below.1)) | inr h ↦ h ]

    after : (r : ℕ) → Has rounds r → c < b → c < r
    after r h later = late r later (near r h).up_to

-- of no round none is the nearest
pub no_nearest : (c : ℕ) (rounds : List ℕ) → ((r : ℕ) → Has rounds r → ⊥) → nearest_round c rounds ≡ None
no_nearest c [] none = refl
no_nearest c (r ∷ rounds) none = absurd (none r (inl refl))
