-- Values that are made one by one, each by a call of its own.
use Rattle.std.proofs.Common.{◌≡◌, ℕ, ◌<◌, List, length, map, sym, subst, ap, ◌∙◌, arith}
use Rattle.std.specs.Prelude.{Result, Ok, IfOk, slice_index_or}
use Rattle.std.specs.List.{range_with_len}
use Rattle.std.proofs.lemmas.List.{length-map, get_or-map}
use Rattle.std.proofs.lemmas.List.FromFn.{fill_by_all}

-- where each call made what f gives of its place, together they made the first n of f
pub collected : {X E : Type 0} (f : ℕ → X) (made : List (Result X E)) (xs : List X) (n : ℕ) → made ≡ map Ok xs → length made ≡ n
    → ((k : ℕ) (d : Result X E) → k < n → IfOk (slice_index_or made k d) (λ x. x ≡ f k)) → xs ≡ map f (range_with_len 0 n)
collected {X} {E} f made xs n all long each =
    let ok : X → Result X E = λ x. Ok x in
    let size : length xs ≡ n = sym (length-map {A = X} xs ok) ∙ sym (ap length all) ∙ long in
    fill_by_all f xs n (f 0) size (λ k lt.
    let at : slice_index_or made k (ok (f 0)) ≡ ok (slice_index_or xs k (f 0)) =
    ap (λ l. slice_index_or l k (ok (f 0))) all ∙ get_or-map ok xs k (f 0) (ok (f 0)) (omega (arith, size)) in
    subst (λ r. IfOk r (λ x. x ≡ f k)) at (each k (ok (f 0)) lt))
