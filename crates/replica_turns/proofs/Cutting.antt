-- Lists that are cut before they are joined.
use Rattle.std.proofs.Common.{◌≡◌, ℕ, ◌+◌, ◌-◌, ◌≤◌, List, ◌++◌, length, take, sym, subst, arith}
use Rattle.std.proofs.Math.Seq.{take-append-add}

-- what is cut to the room after a list is what both come to, cut to the whole
pub take_behind : {A : Type 0} (xs ys : List A) (n : ℕ) → length xs ≤ n → xs ++ take (n - length xs) ys ≡ take n (xs ++ ys)
take_behind {A} xs ys n fits =
    let whole : length xs + (n - length xs) ≡ n = omega arith in
    subst (λ (m : ℕ). xs ++ take (n - length xs) ys ≡ take m (xs ++ ys)) whole (sym (take-append-add xs ys (n - length xs)))
