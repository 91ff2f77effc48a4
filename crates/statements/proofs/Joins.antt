-- Writing one field after the other.
use Rattle.std.proofs.Common.{◌≡◌, ℕ, ◌+◌, ◌<◌, List, [], ◌∷◌, ◌++◌, length, get_or, take, sym, ap, ◌∙◌, append_assoc}
use Rattle.std.specs.List.{flat_map}
use Rattle.std.proofs.lemmas.List.{flat_map_more, take_more}

-- after the old bytes comes the text, and now more of it
pub joins : (old text more : List ℕ) {mid new : List ℕ} → mid ≡ old ++ text → new ≡ mid ++ more → new ≡ old ++ (text ++ more)
joins old text more e f = f ∙ ap (λ (x : List ℕ). x ++ more) e ∙ append_assoc old text more

-- after the old bytes come the first of a list, and now one more
pub joins_one : {X : Type 0} (bytes : X → List ℕ) (old : List ℕ) (xs : List X) (i : ℕ) (x : X) {mid new : List ℕ} → i < length xs
    → x ≡ get_or xs i x
    → mid ≡ old ++ flat_map bytes (take i xs) → new ≡ mid ++ bytes x → new ≡ old ++ flat_map bytes (take (i + 1) xs)
joins_one {X = X} bytes old xs i x lt is e f =
    let firsts : take i xs ++ x ∷ [] ≡ take (i + 1) xs = ap (λ (y : X). take i xs ++ y ∷ []) is ∙ sym (take_more xs i x lt) in
    f ∙ ap (λ (y : List ℕ). y ++ bytes x) e ∙ flat_map_more bytes old (take i xs) x ∙ ap (λ (ys : List X). old ++ flat_map bytes ys) firsts
