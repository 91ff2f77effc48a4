-- The string at the position that a search finds.
use Rattle.std.proofs.Common.{◌≡◌, ◌∙◌, ℕ, List, [], true, sym, ap, get_or}
use Rattle.std.specs.Prelude.{Option, Some, None, IfSome, slice_get, nat_eq}
use Rattle.std.specs.List.{position}
use Rattle.std.proofs.lemmas.Bool.{eqb-true}
use Rattle.std.proofs.lemmas.List.Quantifiers.{position-Some}
use Rattle.std.proofs.lemmas.Option.{slice_get-get_or}
use Rattle.ledger_model.specs.Values.{same_bytes}
use Rattle.ledger_model.proofs.Lists.{pointwise_equal}

-- strings that are the same are equal
pub bytes_equal : (xs ys : List ℕ) → same_bytes xs ys ≡ true → xs ≡ ys
bytes_equal xs ys same = pointwise_equal nat_eq (λ x y e. eqb-true x y e) xs ys same

pub found_at : (strings : List (List ℕ)) (bytes : List ℕ) (found : Option ℕ) → found ≡ position (same_bytes bytes) strings
    → IfSome found (λ p. slice_get strings p ≡ Some bytes)
found_at strings bytes None is = tt
found_at strings bytes (Some p) is =
    let there = position-Some (same_bytes bytes) strings p [] (sym is) in
    slice_get-get_or strings p [] there.0 ∙ ap Some (sym (bytes_equal bytes (get_or strings p []) there.1))
