-- Comparing neighbours tests whether values ascend.
use Rattle.std.proofs.Common.{◌≡◌, ℕ, zero, suc, ◌+◌, ◌<◌, Bool, true, false, List, [], ◌∷◌, length, get_or, refl, sym, arith, add-one}
use Rattle.std.specs.List.{IsAllAdjacentAnswer, AllAdjacentBelow}
use Rattle.std.proofs.lemmas.Bool.{and_from}
use Rattle.std.proofs.Math.Bool.{and-false}
use Rattle.ledger_model.specs.Values.{Value, is_below}
use Rattle.ledger_model.specs.Spelling.{are_ascending}

-- each below the next
all_below : (vs : List Value) → AllAdjacentBelow (λ v w. true ≡ is_below v w) vs (length vs) → are_ascending vs ≡ true
all_below [] h = refl
all_below (v ∷ []) h = refl
all_below (v ∷ w ∷ vs) h =
    and_from (is_below v w) (are_ascending (w ∷ vs)) (sym (h 0 [] (omega arith)))
    (all_below (w ∷ vs) (λ k d lt. rw add-one (let next = h (suc k) d (omega arith) in rw add-one at next)))

-- one that isn't
some_not_below : (k : ℕ) (vs : List Value) → k + 1 < length vs → ((d : Value) → false ≡ is_below (get_or vs k d) (get_or vs (k + 1) d))
    → are_ascending vs ≡ false
some_not_below k [] lt h = absurd (omega arith)
some_not_below k (v ∷ []) lt h = absurd (omega arith)
some_not_below zero (v ∷ w ∷ vs) lt h = rw (sym (h [])) refl
some_not_below (suc k) (v ∷ w ∷ vs) lt h =
    rw (some_not_below k (w ∷ vs) (omega arith) (λ d. rw add-one (let next = h d in rw add-one at next))) (and-false (is_below v w))

pub ascending_answer : (vs : List Value) (r : Bool) → IsAllAdjacentAnswer (λ v w b. b ≡ is_below v w) vs r → r ≡ are_ascending vs
ascending_answer vs true h = sym (all_below vs h)
ascending_answer vs false h = sym (some_not_below h.0 vs h.1 h.2)
