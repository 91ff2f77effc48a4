-- Transactions in their printed form.
use Rattle.std.proofs.Common.{◌≡◌, ◌∙◌, ℕ, ◌<◌, ◌++◌, Bool, true, false, cond, List, [], ◌∷◌, length, refl, sym, subst, append_assoc, arith}
use Rattle.std.specs.Prelude.{◌==◌, Option, Some, None}
use Rattle.std.proofs.lemmas.Option.{some_pair_parts}
use Rattle.plain_text.specs.Transactions.{first_spelled_byte, before, byte_of, nibble, is_plain, StandsFor, ReadsTo}

-- what comes after a byte
before_rest : (o : Option ℕ) (rest after : List ℕ) (b : ℕ) → before o rest ≡ Some (b, after) → rest ≡ after
before_rest None rest after b e = absurd cc
before_rest (Some x) rest after b e = (some_pair_parts x b rest after e).1

-- a byte takes at least one byte of the text
pub shorter : (text after : List ℕ) (b : ℕ) → first_spelled_byte text ≡ Some (b, after) → length after < length text
shorter [] after b e = absurd cc
shorter (x ∷ []) after b e = let same =
    before_rest (cond (is_plain x) (Some x) None) [] after b e in subst (λ (r : List ℕ). length r < length (x ∷ [])) same (omega arith)
shorter (x ∷ y ∷ []) after b e = let same =
    before_rest (cond (is_plain x) (Some x) None) (y ∷ []) after b e
    in subst (λ (r : List ℕ). length r < length (x ∷ y ∷ [])) same (omega arith)
shorter (x ∷ y ∷ z ∷ rest) after b e = by_test (x == 0x5c) e
  where
    by_test : (t : Bool) → cond t (before (byte_of (nibble y) (nibble z)) rest) (before (cond (is_plain x) (Some x) None) (y ∷ z ∷ rest))
        ≡ Some (b, after) → length after < length (x ∷ y ∷ z ∷ rest)
    by_test true h = let same = before_rest (byte_of (nibble y) (nibble z)) rest after b h
        in subst (λ (r : List ℕ). length r < length (x ∷ y ∷ z ∷ rest)) same (omega arith)
    by_test false h = let same = before_rest (cond (is_plain x) (Some x) None) (y ∷ z ∷ rest) after b h
        in subst (λ (r : List ℕ). length r < length (x ∷ y ∷ z ∷ rest)) same (omega arith)

-- one byte more was read
pub reads_on : (text rest after read : List ℕ) (b : ℕ) → first_spelled_byte rest ≡ Some (b, after)
    → ((more : List ℕ) → StandsFor rest more → StandsFor text (read ++ more))
    → (more : List ℕ) → StandsFor after more → StandsFor text ((read ++ b ∷ []) ++ more)
reads_on text rest after read b first so_far more stands =
    subst (StandsFor text) (sym (append_assoc read (b ∷ []) more)) (so_far (b ∷ more) (after, (first, stands)))

-- a text with a first byte stands for no more than that byte and what the rest stands for
pub stands_on : (rest after : List ℕ) (b : ℕ) → first_spelled_byte rest ≡ Some (b, after) → (bytes : List ℕ) → StandsFor rest bytes
    → (more : List ℕ) × StandsFor after more
stands_on rest after b first [] stands = let bad : first_spelled_byte [] ≡ Some (b, after) =
    subst (λ (r : List ℕ). first_spelled_byte r ≡ Some (b, after)) stands first in absurd cc
stands_on rest after b first (x ∷ bytes) (left, (is, stands)) =
    let same : after ≡ left = (some_pair_parts b x after left (sym first ∙ is)).1 in
    (bytes, subst (λ (r : List ℕ). StandsFor r bytes) (sym same) stands)

-- a text that goes on with no byte stands for nothing
pub stands_no_more : (rest : List ℕ) → first_spelled_byte rest ≡ None → (rest ≡ [] → ⊥) → (bytes : List ℕ) → StandsFor rest bytes → ⊥
stands_no_more rest none some [] stands = some stands
stands_no_more rest none some (x ∷ bytes) (left, (is, stands)) = let at : Option (ℕ × List ℕ) = Some (x, left) in let bad : None ≡ at =
    sym none ∙ is in absurd cc

-- a text stands for one list of bytes
pub stands_once : (text a b : List ℕ) → StandsFor text a → StandsFor text b → a ≡ b
stands_once text [] [] s t = refl
stands_once text [] (y ∷ b) s (left, (is, t)) = let bad : first_spelled_byte [] ≡ Some (y, left) =
    subst (λ (r : List ℕ). first_spelled_byte r ≡ Some (y, left)) s is in absurd cc
stands_once text (x ∷ a) [] (left, (is, s)) t = let bad : first_spelled_byte [] ≡ Some (x, left) =
    subst (λ (r : List ℕ). first_spelled_byte r ≡ Some (x, left)) t is in absurd cc
stands_once text (x ∷ a) (y ∷ b) (l, (is, s)) (m, (on, t)) =
    let parts = some_pair_parts x y l m (sym is ∙ on) in
    let tails : a ≡ b = stands_once l a b s (subst (λ (r : List ℕ). StandsFor r b) (sym parts.1) t) in
    rw (parts.0, tails) refl

-- one byte more was read, and the rest begins after it
pub reads_to : (text read rest after : List ℕ) (b : ℕ) → ReadsTo text read rest → first_spelled_byte rest ≡ Some (b, after)
    → ReadsTo text (read ++ b ∷ []) after
reads_to text [] rest after b so_far first = (after, (subst (λ (r : List ℕ). first_spelled_byte r ≡ Some (b, after)) (sym so_far) first, refl))
reads_to text (x ∷ read) rest after b (left, (is, so_far)) first = (left, (is, reads_to left read rest after b so_far first))
