-- Two lists of the same length, from which elements are taken in pairs.
use Rattle.std.proofs.Common.{◌≡◌, ◌⊎◌, inl, inr, List, [], ◌∷◌, length, refl, arith}

-- where one of them has ended, so has the other
pub both_ended : {X Y : Type 0} (xs : List X) (ys : List Y) → length ys ≡ length xs → (xs ≡ []) ⊎ (length ys ≡ 0)
    → (xs ≡ []) × (ys ≡ [])
both_ended [] [] same end = (refl, refl)
both_ended [] (y ∷ ys) same end = absurd (omega arith)
both_ended (x ∷ xs) [] same end = absurd (omega arith)
both_ended (x ∷ xs) (y ∷ ys) same end = absurd (elim end [ inl none ↦ cc | inr none ↦ omega (arith, none) ])
