-- Lists of numbers and tests of them, with one more element.
use Rattle.std.proofs.Common.{◌≡◌, ℕ, ◌+◌, Bool, true, false, refl, List, [], ◌∷◌, ◌++◌, map, sym, ap, ◌∙◌, append-nil, arith}
use Rattle.std.specs.Prelude.{Option, Some, None, filter}
use Rattle.std.specs.List.{filter_map, range_with_len}
use Rattle.std.proofs.lemmas.List.FromFn.{map-range_with_len_more}
use Rattle.std.proofs.lemmas.List.Elements.{filter-append, filter_map-append}

same : (xs : List ℕ) → map (λ x. x) xs ≡ xs
same [] = cc
same (x ∷ xs) = ap (λ l. x ∷ l) (same xs)

-- the numbers below n + 1
pub range_more : (n : ℕ) → range_with_len 0 (n + 1) ≡ range_with_len 0 n ++ n ∷ []
range_more n = sym (same (range_with_len 0 (n + 1))) ∙ map-range_with_len_more (λ x. x) 0 n n (omega arith)
    ∙ ap (λ l. l ++ n ∷ []) (same (range_with_len 0 n))

-- those of them that pass a test
pub filter_more : (p : ℕ → Bool) (n : ℕ) → filter p (range_with_len 0 (n + 1)) ≡ filter p (range_with_len 0 n) ++ filter p (n ∷ [])
filter_more p n = ap (filter p) (range_more n) ∙ filter-append p (range_with_len 0 n) (n ∷ [])

-- what is found at them
pub found_more : {X : Type 0} (f : ℕ → Option X) (n : ℕ)
    → filter_map f (range_with_len 0 (n + 1)) ≡ filter_map f (range_with_len 0 n) ++ filter_map f (n ∷ [])
found_more f n = ap (filter_map f) (range_more n) ∙ filter_map-append f (range_with_len 0 n) (n ∷ [])

-- one more passes
pub filter_kept : (p : ℕ → Bool) (n : ℕ) (items : List ℕ) → items ≡ filter p (range_with_len 0 n) → p n ≡ true
    → items ++ n ∷ [] ≡ filter p (range_with_len 0 (n + 1))
filter_kept p n items is kept =
    ap (λ l. l ++ n ∷ []) is ∙ ap (λ l. filter p (range_with_len 0 n) ++ l) (sym (one p n kept)) ∙ sym (filter_more p n)
  where
    one : (p : ℕ → Bool) (n : ℕ) → p n ≡ true → filter p (n ∷ []) ≡ n ∷ []
    one p n kept = rw kept refl

-- one more doesn't
pub filter_left : (p : ℕ → Bool) (n : ℕ) (items : List ℕ) → items ≡ filter p (range_with_len 0 n) → p n ≡ false
    → items ≡ filter p (range_with_len 0 (n + 1))
filter_left p n items is left =
    is ∙ sym (append-nil _) ∙ ap (λ l. filter p (range_with_len 0 n) ++ l) (sym (none p n left)) ∙ sym (filter_more p n)
  where
    none : (p : ℕ → Bool) (n : ℕ) → p n ≡ false → filter p (n ∷ []) ≡ []
    none p n left = rw left refl

-- one more is found
pub found_kept : {X : Type 0} (f : ℕ → Option X) (n : ℕ) (items : List X) (x : X) → items ≡ filter_map f (range_with_len 0 n)
    → f n ≡ Some x → items ++ x ∷ [] ≡ filter_map f (range_with_len 0 (n + 1))
found_kept f n items x is kept =
    ap (λ l. l ++ x ∷ []) is ∙ ap (λ l. filter_map f (range_with_len 0 n) ++ l) (sym (one f n x kept)) ∙ sym (found_more f n)
  where
    one : {X : Type 0} (f : ℕ → Option X) (n : ℕ) (x : X) → f n ≡ Some x → filter_map f (n ∷ []) ≡ x ∷ []
    one f n x kept = rw kept refl

-- at one more nothing is
pub found_left : {X : Type 0} (f : ℕ → Option X) (n : ℕ) (items : List X) → items ≡ filter_map f (range_with_len 0 n) → f n ≡ None
    → items ≡ filter_map f (range_with_len 0 (n + 1))
found_left f n items is left =
    is ∙ sym (append-nil _) ∙ ap (λ l. filter_map f (range_with_len 0 n) ++ l) (sym (none f n left)) ∙ sym (found_more f n)
  where
    none : {X : Type 0} (f : ℕ → Option X) (n : ℕ) → f n ≡ None → filter_map f (n ∷ []) ≡ []
    none f n left = rw left refl

-- ---- lists, element by element
