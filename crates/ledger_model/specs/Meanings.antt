-- What an application means: four functions of the transactions that it accepted before.
use Rattle.std.specs.Prelude.{◌≡◌, ℕ, ◌==◌, List, [], ◌∷◌, ◌++◌, Option, if◌then◌else◌}
use Rattle.ledger_model.specs.declared.config.AppKind.{AppKind}

-- An application's meaning, in terms of the transactions that it accepted before: the code of a transaction that runs
-- next, the code that CheckTx returns for it, the value under a key, and the bytes whose SHA-256 is the hash.
pub record Meaning : Type 0 where
  pub code : List (List ℕ) → List ℕ → ℕ
  pub check : List (List ℕ) → List ℕ → ℕ
  pub held : List (List ℕ) → List ℕ → Option (List ℕ)
  pub state : List (List ℕ) → List ℕ

-- what the application of each kind means
abbrev pub Meanings : Type 0
Meanings = AppKind → Meaning

-- the accepted transactions, those of code 0, after running these in order
unfoldable pub accepted_by : Meaning → List (List ℕ) → List (List ℕ) → List (List ℕ)
accepted_by m done [] = done
accepted_by m done (tx ∷ txs) = accepted_by m (if m.code done tx == 0 then done ++ tx ∷ [] else done) txs

-- the code of each transaction in order, running after the accepted transactions `done`
unfoldable pub codes_by : Meaning → List (List ℕ) → List (List ℕ) → List ℕ
codes_by m done [] = []
codes_by m done (tx ∷ txs) = m.code done tx ∷ codes_by m (if m.code done tx == 0 then done ++ tx ∷ [] else done) txs

-- both lists of transactions lead to the same bytes from the opening
abbrev pub LeadToSameBytes : Meaning → List (List ℕ) → List (List ℕ) → Type 0
LeadToSameBytes m txs us = m.state (accepted_by m [] txs) ≡ m.state (accepted_by m [] us)

-- The bytes determine what the application answers: after lists of transactions that lead to the same bytes, each next
-- transaction has the same code, also by CheckTx, and leads to the same bytes, and each key has the same value.
pub record Determines (m : Meaning) : Type 0 where
  pub code : (txs us : List (List ℕ)) (tx : List ℕ) → LeadToSameBytes m txs us
      → m.code (accepted_by m [] txs) tx ≡ m.code (accepted_by m [] us) tx
  pub check : (txs us : List (List ℕ)) (tx : List ℕ) → LeadToSameBytes m txs us
      → m.check (accepted_by m [] txs) tx ≡ m.check (accepted_by m [] us) tx
  pub held : (txs us : List (List ℕ)) (key : List ℕ) → LeadToSameBytes m txs us
      → m.held (accepted_by m [] txs) key ≡ m.held (accepted_by m [] us) key
  pub state : (txs us : List (List ℕ)) (tx : List ℕ) → LeadToSameBytes m txs us
      → LeadToSameBytes m (txs ++ tx ∷ []) (us ++ tx ∷ [])
