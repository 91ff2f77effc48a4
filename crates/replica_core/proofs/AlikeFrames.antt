-- Frames that agree in addressee and statement, index by index.
use Rattle.std.proofs.Common.{◌≡◌, ℕ, zero, suc, ◌<◌, List, [], ◌∷◌, length, get_or, refl, ap, sym, subst, arith}
use Rattle.ledger_model.specs.declared.reply.Sent.{Sent}
use Rattle.replica_core.specs.ShownEnds.{IsShownAlike, AreShownAlike}

-- they are as many
pub alike_length : (xs ys : List Sent) → AreShownAlike xs ys → length xs ≡ length ys
alike_length [] [] alike = refl
alike_length [] (y ∷ ys) alike = absurd alike
alike_length (x ∷ xs) [] alike = absurd alike
alike_length (x ∷ xs) (y ∷ ys) alike = ap suc (alike_length xs ys alike.1)

-- at each place they are alike
pub alike_at : (xs ys : List Sent) (i : ℕ) (x y : Sent) → i < length xs → AreShownAlike xs ys → x ≡ get_or xs i x → y ≡ get_or ys i y
    → IsShownAlike x y
alike_at [] ys i x y below alike first second = absurd (omega arith)
alike_at (a ∷ xs) [] i x y below alike first second = absurd alike
alike_at (a ∷ xs) (b ∷ ys) zero x y below alike first second =
    subst (λ v. IsShownAlike v y) (sym first) (subst (λ v. IsShownAlike a v) (sym second) alike.0)
alike_at (a ∷ xs) (b ∷ ys) (suc i) x y below alike first second = alike_at xs ys i x y (omega arith) alike.1 first second
