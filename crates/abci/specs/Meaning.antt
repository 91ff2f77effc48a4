-- The meaning of each call of an application, in terms of its state machine. A state is the bytes whose SHA-256 is the
-- hash, and is described by transactions that lead to it from the opening state.
use Rattle.ledger_model.specs.Meanings.{Meanings}
use Rattle.std.specs.Prelude.{◌≡◌, ℕ, ◌+◌, List, [], ◌∷◌, ◌++◌, Option, Some, None, IsSome}
use Rattle.sha2.specs.Sha256.{sha256}
use Rattle.ledger_model.specs.declared.config.AppKind.{AppKind}
use Rattle.ledger_model.specs.Applications.{Machine, accepted, state_of, code_after, check_after, held_at}
use Rattle.abci.specs.declared.info.Info.{Info}

-- the state to which the transactions lead from the opening state
abbrev pub state_after : Meanings → AppKind → List (List ℕ) → List ℕ
state_after meaning kind txs = state_of meaning kind (accepted meaning kind [] txs)

-- the machine without an unfinished block
abbrev pub without_work : Machine → Machine
without_work m = record m { working = None }

-- the height, and the hash of the committed state
abbrev pub ShowsOf : Machine → Info → Type 0
ShowsOf m info = (info.height ≡ m.height) × (info.hash ≡ sha256 m.committed)

-- the code of a new transaction, given the transactions that led to the committed state
abbrev pub ChecksTo : Meanings → Machine → List ℕ → ℕ → Type 0
ChecksTo meaning m tx code =
    (txs : List (List ℕ)) → m.committed ≡ state_after meaning m.kind txs
    → code ≡ check_after meaning m.kind (accepted meaning m.kind [] txs) tx

-- the working state starts as the committed one
abbrev pub StartsBlock : Machine → Machine → Type 0
StartsBlock old new = new ≡ record old { working = Some old.committed }

-- only the working state may have changed, and there is one
abbrev pub KeepsCommitted : Machine → Machine → Type 0
KeepsCommitted old new = IsSome new.working × (new ≡ record old { working = new.working })

-- the code of a transaction that follows those which led to the working state, and the working state after it
abbrev pub DeliversTo : Meanings → Machine → List ℕ → ℕ → Machine → Type 0
DeliversTo meaning old tx code new =
    (txs : List (List ℕ)) → old.working ≡ Some (state_after meaning old.kind txs)
    → (code ≡ code_after meaning old.kind (accepted meaning old.kind [] txs) tx)
    × (new ≡ record old { working = Some (state_after meaning old.kind (txs ++ tx ∷ [])) })

-- the working state is committed, as the next height
abbrev pub CommitsTo : Machine → List ℕ → Machine → Type 0
CommitsTo old hash new =
    (state : List ℕ) → old.working ≡ Some state
    → (new ≡ record old { committed = state; working = None; height = old.height + 1 }) × (hash ≡ sha256 state)

-- the value under a key after the transactions that led to the committed state
abbrev pub AnswersTo : Meanings → Machine → List ℕ → Option (List ℕ) → Type 0
AnswersTo meaning m key value =
    (txs : List (List ℕ)) → m.committed ≡ state_after meaning m.kind txs
    → value ≡ held_at meaning m.kind (accepted meaning m.kind [] txs) key

-- only the working state may have changed
abbrev pub LosesWork : Machine → Machine → Type 0
LosesWork old new = new ≡ record old { working = new.working }
