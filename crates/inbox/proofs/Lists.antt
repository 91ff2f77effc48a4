-- The items of a pass.
use Rattle.std.proofs.Common.{◌≡◌, ◌≢◌, ℕ, Bool, eqb, eq-eqb, ne_eqb, List, [], ◌∷◌, ◌++◌, length, sym, ap, ◌∙◌, arith, append_assoc}
use Rattle.std.proofs.Common.{length-append}
use Rattle.std.specs.Prelude.{cond}
use Rattle.std.proofs.lemmas.List.{append-nil}
use Rattle.std.proofs.lemmas.List.Elements.{filter-append}
use Rattle.ledger_model.specs.Inboxes.{Put, of_pass}

pub of_own : (p : ℕ) (x : Put) (xs : List Put) → x.pass ≡ p → of_pass p (x ∷ xs) ≡ x ∷ of_pass p xs
of_own p x xs is = ap (λ (b : Bool). cond b (x ∷ of_pass p xs) (of_pass p xs)) (eq-eqb x.pass p is)

pub of_other : (p : ℕ) (x : Put) (xs : List Put) → x.pass ≢ p → of_pass p (x ∷ xs) ≡ of_pass p xs
of_other p x xs is = ap (λ (b : Bool). cond b (x ∷ of_pass p xs) (of_pass p xs)) (ne_eqb x.pass p is)

pub of_both : (p : ℕ) (xs ys : List Put) → of_pass p (xs ++ ys) ≡ of_pass p xs ++ of_pass p ys
of_both p xs ys = filter-append (λ (i : Put). eqb i.pass p) xs ys

pub last_own : (p : ℕ) (xs : List Put) (x : Put) → x.pass ≡ p → of_pass p (xs ++ x ∷ []) ≡ of_pass p xs ++ x ∷ []
last_own p xs x is = of_both p xs (x ∷ []) ∙ ap (λ (l : List Put). of_pass p xs ++ l) (of_own p x [] is)

pub last_other : (p : ℕ) (xs : List Put) (x : Put) → x.pass ≢ p → of_pass p (xs ++ x ∷ []) ≡ of_pass p xs
last_other p xs x is = of_both p xs (x ∷ []) ∙ ap (λ (l : List Put). of_pass p xs ++ l) (of_other p x [] is) ∙ append-nil (of_pass p xs)

-- an item that is taken goes from the one list to the other, and its pass has the same
pub passed_on : (p : ℕ) (taken : List Put) (x : Put) (rest : List Put)
    → of_pass p (taken ++ x ∷ []) ++ of_pass p rest ≡ of_pass p taken ++ of_pass p (x ∷ rest)
passed_on p taken x rest = sym (of_both p (taken ++ x ∷ []) rest) ∙ ap (of_pass p) (append_assoc taken (x ∷ []) rest)
    ∙ of_both p taken (x ∷ rest)

pub of_none : (p : ℕ) (taken : List Put) (x : Put) (rest : List Put) → of_pass p (taken ++ x ∷ rest) ≡ [] → x.pass ≢ p
of_none p taken x rest none is =
    let e : of_pass p taken ++ (x ∷ of_pass p rest) ≡ [] =
    ap (λ (l : List Put). of_pass p taken ++ l) (sym (of_own p x rest is)) ∙ sym (of_both p taken (x ∷ rest)) ∙ none in
    let n : length (of_pass p taken ++ (x ∷ of_pass p rest)) ≡ 0 = ap length e in
    absurd (omega (arith, length-append (of_pass p taken) (x ∷ of_pass p rest)))
