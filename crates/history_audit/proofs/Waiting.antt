-- How many histories are of replicas that are still to come: one less with each that is found.
use Rattle.std.proofs.Common.{◌≡◌, ℕ, ◌+◌, ◌≤◌, Bool, true, false, cond, List, [], ◌∷◌, length, suc, refl, sym, ap, ◌∙◌, arith, inl, inr}
use Rattle.std.specs.Prelude.{Some, nat_eq, nat_le}
use Rattle.std.proofs.lemmas.Bool.{cases_Bool, eqb-true}
use Rattle.ledger_model.specs.declared.history.History.{History}
use Rattle.ledger_model.specs.Groups.{history_of}

-- the number of histories of replica n and of later ones
abbrev pub waiting : ℕ → List History → ℕ
waiting n [] = 0
waiting n (m ∷ ms) = cond (nat_le n m.replica) (1 + waiting n ms) (waiting n ms)

-- all histories at most
pub waiting_all : (n : ℕ) (histories : List History) → waiting n histories ≤ length histories
waiting_all n [] = omega arith
waiting_all n (m ∷ ms) = let rest = waiting_all n ms in by (nat_le n m.replica) (waiting n ms) (length ms) rest
  where
    by : (b : Bool) (x y : ℕ) → x ≤ y → cond b (1 + x) x ≤ suc y
    by true x y le = omega (arith, le)
    by false x y le = omega (arith, le)

-- one history more, counted on the left only if on the right
more : (a b : Bool) (x y : ℕ) → (a ≡ true → b ≡ true) → x ≤ y → cond a (1 + x) x ≤ cond b (1 + y) y
more true true x y so le = omega (arith, le)
more true false x y so le = absurd (let e : false ≡ true = so refl in cc)
more false true x y so le = omega (arith, le)
more false false x y so le = le

later : (n r : ℕ) → nat_le (n + 1) r ≡ true → nat_le n r ≡ true
later n r le = grind (arith)

-- no more of later replicas
pub waiting_less : (n : ℕ) (histories : List History) → waiting (n + 1) histories ≤ waiting n histories
waiting_less n [] = omega arith
waiting_less n (m ∷ ms) =
    more (nat_le (n + 1) m.replica) (nat_le n m.replica) (waiting (n + 1) ms) (waiting n ms) (later n m.replica) (waiting_less n ms)

-- one less of later replicas, if this one has a history
pub waiting_one : (n : ℕ) (histories : List History) (k : History) → history_of histories n ≡ Some k
    → waiting (n + 1) histories + 1 ≤ waiting n histories
waiting_one n [] k found = cc
waiting_one n (m ∷ ms) k found = elim (cases_Bool (nat_eq m.replica n)) [
  | inl here ↦ here_one (nat_le (n + 1) m.replica) (nat_le n m.replica) (waiting (n + 1) ms) (waiting n ms)
      (over n m.replica (eqb-true m.replica n here)) (at n m.replica (eqb-true m.replica n here)) (waiting_less n ms)
  | inr other ↦ one_more (nat_le (n + 1) m.replica) (nat_le n m.replica) (waiting (n + 1) ms) (waiting n ms) (later n m.replica)
      (waiting_one n ms k (sym (ap (λ b. cond b (Some m) (history_of ms n)) other) ∙ found))
]
  where
    over : (n r : ℕ) → r ≡ n → nat_le (n + 1) r ≡ false
    over n r same = grind (arith)

    at : (n r : ℕ) → r ≡ n → nat_le n r ≡ true
    at n r same = grind (arith)

    here_one : (a b : Bool) (x y : ℕ) → a ≡ false → b ≡ true → x ≤ y → cond a (1 + x) x + 1 ≤ cond b (1 + y) y
    here_one true b x y over at le = absurd (let e : true ≡ false = over in cc)
    here_one false false x y over at le = absurd (let e : false ≡ true = at in cc)
    here_one false true x y over at le = omega (arith, le)

    one_more : (a b : Bool) (x y : ℕ) → (a ≡ true → b ≡ true) → x + 1 ≤ y → cond a (1 + x) x + 1 ≤ cond b (1 + y) y
    one_more true true x y so le = omega (arith, le)
    one_more true false x y so le = absurd (let e : false ≡ true = so refl in cc)
    one_more false true x y so le = omega (arith, le)
    one_more false false x y so le = le
