-- The heights of statements, in order.
use Rattle.std.proofs.Common.{◌≡◌, ℕ, ◌≤◌, true, ◌||◌, inl, inr, List, [], ◌∷◌, ◌++◌, refl, arith, eq-eqb}
use Rattle.std.specs.Prelude.{◌==◌, nat_lt, map}
use Rattle.std.specs.List.{AllByRecursion}
use Rattle.std.proofs.lemmas.Bool.{cases_Bool, and_from, or_left, or_right, ltb-false}
use Rattle.ledger_model.specs.declared.statement.SignedStatement.{SignedStatement}
use Rattle.ledger_model.specs.Logs.{height_of}
use Rattle.ledger_model.specs.Lawful.{never_falls}

-- the height of a signed statement
abbrev pub height_in : SignedStatement → ℕ
height_in s = height_of s.statement

at_least : (a b : ℕ) → a ≤ b → (nat_lt a b || (a == b)) ≡ true
at_least a b le = elim (cases_Bool (nat_lt a b)) [
  | inl below ↦ or_left (nat_lt a b) (a == b) below
  | inr not_below ↦ (let ge = ltb-false a b not_below in or_right (nat_lt a b) (a == b) (eq-eqb a b (omega (arith, le, ge))))
]

-- after those of one height none falls, where each is at least of that height
pub falls_nowhere : (n : ℕ) (ss ts : List SignedStatement) → AllByRecursion (λ s. height_in s ≡ n) ss
    → AllByRecursion (λ t. n ≤ height_in t) ts
    → never_falls (map height_in ts) ≡ true → never_falls (map height_in (ss ++ ts)) ≡ true
falls_nowhere n [] ts same above rest = rest
falls_nowhere n (s ∷ []) [] same above rest = refl
falls_nowhere n (s ∷ []) (t ∷ ts) same above rest =
    let first = same.0 in
    let next = above.0 in
    and_from (nat_lt (height_in s) (height_in t) || (height_in s == height_in t)) (never_falls (map height_in (t ∷ ts)))
    (at_least (height_in s) (height_in t) (omega (arith, first, next))) rest
falls_nowhere n (s ∷ u ∷ us) ts same above rest =
    let first = same.0 in
    let next = same.1.0 in
    and_from (nat_lt (height_in s) (height_in u) || (height_in s == height_in u)) (never_falls (map height_in (u ∷ us ++ ts)))
    (at_least (height_in s) (height_in u) (omega (arith, first, next)))
    (falls_nowhere n (u ∷ us) ts same.1 above rest)
