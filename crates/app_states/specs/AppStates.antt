-- Calls on the state of an application, in terms of the transactions that led to its bytes.
use Rattle.std.specs.Prelude.{◌≡◌, ℕ, List, [], ◌∷◌, ◌++◌, Option}
use Rattle.ledger_model.specs.Meanings.{Meaning, accepted_by}

-- the bytes to which the transactions lead from the opening
abbrev pub bytes_after : Meaning → List (List ℕ) → List ℕ
bytes_after m txs = m.state (accepted_by m [] txs)

-- a transaction that follows those which led to the old state has this code, and leads to the new state
abbrev pub DeliversTx : Meaning → List ℕ → List ℕ → ℕ → List ℕ → Type 0
DeliversTx m old tx code new =
    (txs : List (List ℕ)) → old ≡ bytes_after m txs
    → (code ≡ m.code (accepted_by m [] txs) tx) × (new ≡ bytes_after m (txs ++ tx ∷ []))

-- the code of a transaction that is offered to the pool in this state, given the transactions that led to it
abbrev pub Checks : Meaning → List ℕ → List ℕ → ℕ → Type 0
Checks m state tx code = (txs : List (List ℕ)) → state ≡ bytes_after m txs → code ≡ m.check (accepted_by m [] txs) tx

-- the value that the state has under a key, given the transactions that led to it
abbrev pub HoldsUnder : Meaning → List ℕ → List ℕ → Option (List ℕ) → Type 0
HoldsUnder m state key value = (txs : List (List ℕ)) → state ≡ bytes_after m txs → value ≡ m.held (accepted_by m [] txs) key
