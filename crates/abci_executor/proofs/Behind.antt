-- Transactions that follow others: which of them are accepted, and their codes.
use Rattle.std.proofs.Common.{◌≡◌, ℕ, List, [], ◌∷◌, ◌++◌, refl, ap}
use Rattle.std.specs.Prelude.{◌==◌, if◌then◌else◌}
use Rattle.ledger_model.specs.Meanings.{Meaning, accepted_by, codes_by}

-- what is accepted of transactions after others
pub accepted-append : (m : Meaning) (done xs ys : List (List ℕ))
    → accepted_by m done (xs ++ ys) ≡ accepted_by m (accepted_by m done xs) ys
unfolding accepted_by
accepted-append m done [] ys = refl
accepted-append m done (x ∷ xs) ys = accepted-append m (if m.code done x == 0 then done ++ x ∷ [] else done) xs ys

-- the codes of transactions after others
codes-append : (m : Meaning) (done xs ys : List (List ℕ))
    → codes_by m done (xs ++ ys) ≡ codes_by m done xs ++ codes_by m (accepted_by m done xs) ys
unfolding accepted_by codes_by
codes-append m done [] ys = refl
codes-append m done (x ∷ xs) ys =
    ap (λ cs. m.code done x ∷ cs) (codes-append m (if m.code done x == 0 then done ++ x ∷ [] else done) xs ys)

-- the codes of one more transaction
pub codes-snoc : (m : Meaning) (done xs : List (List ℕ)) (tx : List ℕ)
    → codes_by m done (xs ++ tx ∷ []) ≡ codes_by m done xs ++ m.code (accepted_by m done xs) tx ∷ []
unfolding codes_by
codes-snoc m done xs tx = codes-append m done xs (tx ∷ [])
