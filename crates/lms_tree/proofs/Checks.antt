-- The outcome of checking a signature.
use Rattle.std.proofs.Common.{◌≡◌, ℕ, ◌+◌, ◌^◌, ◌<◌, ◌≤◌, Bool, true, false, ◌&&◌, List, [], ◌∷◌, length, take, drop, refl, sym, ap, ◌∙◌}
use Rattle.std.specs.Prelude.{◌≢◌, Option, Some, None, ◌==◌, nat_lt, nat_eq}
use Rattle.std.specs.Int.{w32, from_be_bytes}
use Rattle.std.specs.Cmp.Lexicographic.{pointwise}
use Rattle.std.proofs.lemmas.Bool.{eq-eqb, le-ltb, lt-ltb, ne_eqb}
use Rattle.lms_tree.specs.Keys.{scheme_of}
use Rattle.ledger_model.specs.Signatures.{Params, verifies, verifies_under, signature_len, ots_len, root_above, leaf_hash, leaf_candidate}
use Rattle.ledger_model.specs.Signatures.{bytes_same}
use Rattle.std.proofs.Math.Bool.{and-false}

-- the check under the parameters that type codes name, if they name any
abbrev with_params : Option Params → List ℕ → List ℕ → List ℕ → Bool
with_params None key message signature = false
with_params (Some p) key message signature = verifies_under p key message signature

verifies-with : (key message signature : List ℕ)
    → verifies key message signature ≡ ((length key == 56) && with_params (scheme_of key) key message signature)
unfolding verifies
verifies-with key message signature = refl

pub verifies-under : (p : Params) (key message signature : List ℕ) → scheme_of key ≡ Some p
    → verifies key message signature ≡ ((length key == 56) && verifies_under p key message signature)
verifies-under p key message signature named =
    verifies-with key message signature ∙ ap (λ o. (length key == 56) && with_params o key message signature) named

-- nothing verifies under bytes that have not the length of a key
pub no_key-length : (key message signature : List ℕ) → length key ≢ 56 → false ≡ verifies key message signature
no_key-length key message signature other =
    sym (verifies-with key message signature
    ∙ ap (λ b. b && with_params (scheme_of key) key message signature) (ne_eqb (length key) 56 other))

-- nor under those whose type codes are of no parameter set
pub no_key-scheme : (key message signature : List ℕ) → scheme_of key ≡ None → false ≡ verifies key message signature
no_key-scheme key message signature unknown =
    sym (verifies-with key message signature ∙ ap (λ o. (length key == 56) && with_params o key message signature) unknown
    ∙ and-false (length key == 56))

-- the parts of a signature
pub record IsCut (p : Params) (signature : List ℕ) (q code : ℕ) (ots path : List ℕ) : Type 0 where
  pub leaf : q ≡ from_be_bytes w32 (take 4 signature)
  pub one_time : ots ≡ take (ots_len p) (drop 4 signature)
  pub tree_code : code ≡ from_be_bytes w32 (take 4 (drop (4 + ots_len p) signature))
  pub rest : path ≡ drop 4 (drop (4 + ots_len p) signature)

-- whether the roots are one
abbrev same_root : Params → List ℕ → List ℕ → ℕ → List ℕ → List ℕ → Bool
same_root p key message q ots path =
    let id = take 16 (drop 8 key) in
    let leaf = 2 ^ p.height + q in
    bytes_same (root_above id path p.height 0 leaf (leaf_hash id leaf (leaf_candidate p id q message ots))) (drop 24 key)

-- the check as five tests of the parts
under-tests : (p : Params) (key message signature : List ℕ) (q code : ℕ) (ots path : List ℕ) → IsCut p signature q code ots path
    → verifies_under p key message signature
    ≡ ((length signature == signature_len p) && (from_be_bytes w32 (take 4 ots) == p.ots_code) && (code == p.lms_code)
    && nat_lt q (2 ^ p.height) && same_root p key message q ots path)
unfolding verifies_under
under-tests p key message signature q code ots path cut = rw (cut.leaf, cut.one_time, cut.tree_code, cut.rest) refl

no-second : (a c d e : Bool) → (a && false && c && d && e) ≡ false
no-second true c d e = refl
no-second false c d e = refl

no-third : (a b d e : Bool) → (a && b && false && d && e) ≡ false
no-third a b d e = ap (λ x. x && d && e) (and-false (a && b))

no-fourth : (a b c e : Bool) → (a && b && c && false && e) ≡ false
no-fourth a b c e = ap (λ x. x && e) (and-false (a && b && c))

-- what fails under the parameters fails
pub refused : (p : Params) (key message signature : List ℕ) → scheme_of key ≡ Some p → verifies_under p key message signature ≡ false
    → false ≡ verifies key message signature
refused p key message signature named fails =
    sym (verifies-under p key message signature named ∙ ap (λ b. (length key == 56) && b) fails ∙ and-false (length key == 56))

-- a signature of another length
pub other_length : (p : Params) (key message signature : List ℕ) → (length signature ≡ signature_len p → ⊥)
    → verifies_under p key message signature ≡ false
unfolding verifies_under
other_length p key message signature other = rw (ne_eqb (length signature) (signature_len p) other) refl

-- a signature of another type of one-time signatures
pub other_type : (p : Params) (key message signature : List ℕ) (q code : ℕ) (ots path : List ℕ) → IsCut p signature q code ots path
    → (from_be_bytes w32 (take 4 ots) ≡ p.ots_code → ⊥) → verifies_under p key message signature ≡ false
other_type p key message signature q code ots path cut other =
    under-tests p key message signature q code ots path cut
    ∙ ap (λ b. (length signature == signature_len p) && b && (code == p.lms_code) && nat_lt q (2 ^ p.height)
    && same_root p key message q ots path) (ne_eqb (from_be_bytes w32 (take 4 ots)) p.ots_code other)
    ∙ no-second (length signature == signature_len p) (code == p.lms_code) (nat_lt q (2 ^ p.height)) (same_root p key message q ots path)

-- a signature of another type of tree
pub other_tree : (p : Params) (key message signature : List ℕ) (q code : ℕ) (ots path : List ℕ) → IsCut p signature q code ots path
    → (code ≡ p.lms_code → ⊥) → verifies_under p key message signature ≡ false
other_tree p key message signature q code ots path cut other =
    under-tests p key message signature q code ots path cut
    ∙ ap (λ c. (length signature == signature_len p) && (from_be_bytes w32 (take 4 ots) == p.ots_code) && c && nat_lt q (2 ^ p.height)
    && same_root p key message q ots path) (ne_eqb code p.lms_code other)
    ∙ no-third (length signature == signature_len p) (from_be_bytes w32 (take 4 ots) == p.ots_code) (nat_lt q (2 ^ p.height))
    (same_root p key message q ots path)

-- a leaf number out of range
pub other_leaf : (p : Params) (key message signature : List ℕ) (q code : ℕ) (ots path : List ℕ) → IsCut p signature q code ots path
    → 2 ^ p.height ≤ q → verifies_under p key message signature ≡ false
other_leaf p key message signature q code ots path cut above =
    under-tests p key message signature q code ots path cut
    ∙ ap (λ d. (length signature == signature_len p) && (from_be_bytes w32 (take 4 ots) == p.ots_code) && (code == p.lms_code) && d
    && same_root p key message q ots path) (le-ltb q (2 ^ p.height) above)
    ∙ no-fourth (length signature == signature_len p) (from_be_bytes w32 (take 4 ots) == p.ots_code) (code == p.lms_code)
    (same_root p key message q ots path)

-- two ways to compare bytes
pub bytes_same-pointwise : (xs ys : List ℕ) → pointwise nat_eq xs ys ≡ bytes_same xs ys
bytes_same-pointwise [] [] = refl
bytes_same-pointwise [] (y ∷ ys) = refl
bytes_same-pointwise (x ∷ xs) [] = refl
bytes_same-pointwise (x ∷ xs) (y ∷ ys) = ap (λ b. (x == y) && b) (bytes_same-pointwise xs ys)

pub bytes_same-refl : (xs : List ℕ) → bytes_same xs xs ≡ true
bytes_same-refl [] = refl
bytes_same-refl (x ∷ xs) = rw (eq-eqb x x refl) (bytes_same-refl xs)

-- where all else holds the roots decide
pub checked : (p : Params) (key message signature : List ℕ) (q code : ℕ) (ots path : List ℕ) → IsCut p signature q code ots path
    → scheme_of key ≡ Some p → length key ≡ 56
    → length signature ≡ signature_len p → from_be_bytes w32 (take 4 ots) ≡ p.ots_code → code ≡ p.lms_code → q < 2 ^ p.height
    → verifies key message signature
    ≡ bytes_same (root_above (take 16 (drop 8 key)) path p.height 0 (2 ^ p.height + q)
    (leaf_hash (take 16 (drop 8 key)) (2 ^ p.height + q) (leaf_candidate p (take 16 (drop 8 key)) q message ots))) (drop 24 key)
checked p key message signature q code ots path cut named whole long of_type of_tree below =
    verifies-under p key message signature named
    ∙ ap (λ b. b && verifies_under p key message signature) (eq-eqb _ _ whole)
    ∙ under-tests p key message signature q code ots path cut
    ∙ rw (eq-eqb _ _ long, eq-eqb _ _ of_type, eq-eqb _ _ of_tree, lt-ltb _ _ below) refl
