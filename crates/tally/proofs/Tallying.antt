-- Counting replicas is counting the statements that were read of them, if at most one was read of each.
use Rattle.std.proofs.Common.{◌≡◌, ℕ, zero, suc, ◌+◌, ◌<◌, ◌≤◌, Bool, true, false, inl, inr, List, [], ◌∷◌, refl, subst, cond, arith}
use Rattle.std.specs.Prelude.{map, nat_eq, ◌==◌, ◌&&◌}
use Rattle.std.specs.List.{list_any}
use Rattle.std.proofs.lemmas.Bool.{cases_Bool, eqb-true, ne_eqb, eq-eqb, both_ways}
use Rattle.ledger_model.specs.Rounds.{count_from}
use Rattle.ledger_model.specs.Validity.{ascends_within}
use Rattle.tally.specs.Tallies.{count_where}
use Rattle.ledger_model.proofs.Counting.{ascends_parts, ascends_from}

-- tests that agree from a on pass as many numbers
pub count_from-same : (p q : ℕ → Bool) (a n : ℕ) → ((r : ℕ) → a ≤ r → p r ≡ q r) → count_from a n p ≡ count_from a n q
count_from-same p q a zero same = refl
count_from-same p q a (suc n) same =
    let here = same a (omega arith) in
    let rest = count_from-same p q (a + 1) n (λ r le. same r (omega (arith, le))) in
    (λ k. cond (here k) 1 0 + rest k)

-- what has the number r and passes
abbrev pub of_number : {X : Type 0} → (X → ℕ) → (X → Bool) → List X → ℕ → Bool
of_number key test xs r = list_any (λ x. (key x == r) && test x) xs

module _ {X : Type 0} (key : X → ℕ) (test : X → Bool) where
  -- nothing of those that ascend from low on has a number below
  none_below : (low high r : ℕ) (xs : List X) → ascends_within low high (map key xs) ≡ true → r < low → of_number key test xs r ≡ false
  none_below low high r [] h lt = refl
  none_below low high r (x ∷ xs) h lt =
      let parts = ascends_parts low high (key x) (map key xs) h in
      let other : nat_eq (key x) r ≡ false = ne_eqb (key x) r (λ e. omega (arith, parts.0)) in
      let rest = none_below (key x + 1) high r xs (parts.1.1) (omega (arith, parts.0)) in
      simp other rest

  -- each number once
  pub counted_once : (n a : ℕ) (xs : List X) → ascends_within a (a + n) (map key xs) ≡ true
      → count_from a n (of_number key test xs) ≡ count_where test xs
  counted_once zero a [] h = refl
  counted_once zero a (x ∷ xs) h = let parts = ascends_parts a (a + 0) (key x) (map key xs) h in absurd (omega (arith, parts.0, parts.1.0))
  counted_once (suc n) a [] h = let rest = counted_once n (a + 1) [] refl in omega (arith, rest)
  counted_once (suc n) a (x ∷ xs) h =
      let parts = ascends_parts a (a + suc n) (key x) (map key xs) h in
      let end : a + suc n ≡ a + 1 + n = omega arith in
      elim (cases_Bool (nat_eq (key x) a)) [
        | inl here ↦
            let is : key x ≡ a = eqb-true (key x) a here in
            let behind : ascends_within (a + 1) (a + 1 + n) (map key xs) ≡ true =
            subst (λ e. ascends_within (a + 1) e (map key xs) ≡ true) end
            (subst (λ y. ascends_within (y + 1) (a + suc n) (map key xs) ≡ true) is (parts.1.1)) in
            let none = none_below (a + 1) (a + 1 + n) a xs behind (omega arith) in
            let same = count_from-same (of_number key test (x ∷ xs)) (of_number key test xs) (a + 1) n
            (λ r le. let other : nat_eq (key x) r ≡ false = ne_eqb (key x) r (λ e. omega (arith, e, is, le)) in simp other refl) in
            let rest = counted_once n (a + 1) xs behind in
            elim (cases_Bool (test x)) [
              | inl passes ↦ simp (here, passes) (omega (arith, same, rest))
              | inr fails ↦
                  simp (here, fails, none) (omega (arith, same, rest))
            ]
        | inr later ↦
            let apart : key x ≡ a → ⊥ = λ e. both_ways (nat_eq (key x) a) later (eq-eqb (key x) a e) in
            let above : a + 1 ≤ key x = omega (arith, apart, parts.0) in
            let all : ascends_within (a + 1) (a + 1 + n) (map key (x ∷ xs)) ≡ true =
            subst (λ e. ascends_within (a + 1) e (map key (x ∷ xs)) ≡ true) end
            (ascends_from (a + 1) (a + suc n) (key x) (map key xs) above (parts.1.0) (parts.1.1)) in
            let none = none_below (a + 1) (a + 1 + n) a (x ∷ xs) all (omega arith) in
            let rest = counted_once n (a + 1) (x ∷ xs) all in
            simp none (omega (arith, rest))
      ]
