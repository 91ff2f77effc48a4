-- The first pair with a name, pair by pair.
use Rattle.std.proofs.Common.{◌≡◌, ℕ, true, false, List, ◌∷◌, refl}
use Rattle.std.specs.Prelude.{Some}
use Rattle.std.specs.Str.{bytes_eq}
use Rattle.http_messages.specs.Parameters.{first_parameter}

-- the next pair has the name
pub first_here : (name : List ℕ) (pairs rest : List (List ℕ × List ℕ)) (pair : List ℕ × List ℕ) → pairs ≡ pair ∷ rest
    → bytes_eq pair.0 name ≡ true → first_parameter name pairs ≡ Some pair.1
first_here name pairs rest pair e is = rw (e, is) refl

-- the next pair has another name
pub first_later : (name : List ℕ) (pairs rest : List (List ℕ × List ℕ)) (pair : List ℕ × List ℕ) → pairs ≡ pair ∷ rest
    → bytes_eq pair.0 name ≡ false → first_parameter name pairs ≡ first_parameter name rest
first_later name pairs rest pair e is = rw (e, is) refl
