-- The laws by which the table of held locks keeps step with the log.
use Rattle.ledger_model.specs.Meanings.{Meanings}
use Rattle.std.specs.Prelude.{◌≡◌, ◌≤◌, ℕ, ◌==◌, Bool, false, true, ◌&&◌, List, [], ◌∷◌, ◌++◌, map, None}
use Rattle.ledger_model.specs.declared.config.Config.{Config}
use Rattle.ledger_model.specs.declared.history.Entry.{Entry}
use Rattle.ledger_model.specs.declared.statement.SignedStatement.{SignedStatement}
use Rattle.ledger_model.specs.Values.{Value}
use Rattle.ledger_model.specs.Rounds.{phase_of, place_of, round_at, lock_place, release_place}
use Rattle.ledger_model.specs.Notes.{Note, Read, Has, clock_of, is_lock, was_read}
use Rattle.ledger_model.specs.Locks.{held_values, is_full, value_read}
use Rattle.ledger_model.specs.Logs.{log_of}
use Rattle.ledger_model.specs.Rules.{Ring, has_phase}
use Rattle.ledger_model.specs.Lawful.{Replay, held_locks}
use Rattle.lock_proofs.specs.LockTables.{SignedLock, as_statement, with_lock, has_four_others, released}
use Rattle.lock_proofs.specs.Tables.{values_of}

-- What holds of every log of a replica, because the replica ignores statements of another round or phase.
pub record IsTimely (log : List Note) : Type 0 where
  -- no statement was read in a round that isn't open yet
  pub past : (c : ℕ) (s : SignedStatement) → Has log (Read c s) → c ≤ clock_of log
  -- a lock that was read at place 2 is of that round's phase
  pub of_phase : (c : ℕ) (s : SignedLock) → Has log (Read c (as_statement s)) → place_of c ≡ lock_place → s.lock.phase ≡ phase_of c

-- the empty log is timely and holds no lock
pub record BeginsEmpty : Type 0 where
  pub timely : IsTimely []
  pub none_held : held_locks [] ≡ []

-- the first lock that is read at place 2 of its own phase is taken
abbrev pub TakesALock : Type 0
TakesALock =
    (log : List Note) (table : List SignedLock) (k : ℕ) (s : SignedLock)
    → IsTimely log → map as_statement table ≡ held_locks log
    → 1 ≤ k → clock_of log ≡ round_at lock_place k → s.lock.phase ≡ k → was_read log (clock_of log) (is_lock (λ l. true)) ≡ false
    → held_locks (log ++ Read (clock_of log) (as_statement s) ∷ []) ≡ map as_statement (with_lock s table)

-- a lock that is read at place 4 of phase k releases the same locks in the log as in the table
abbrev pub ReleasesLocks : Type 0
ReleasesLocks =
    (log : List Note) (table : List SignedLock) (k : ℕ) (s : SignedLock)
    → IsTimely log → map as_statement table ≡ held_locks log
    → clock_of log ≡ round_at release_place k
    → held_locks (log ++ Read (clock_of log) (as_statement s) ∷ []) ≡ map as_statement (released k s.lock table)

-- a note that reads no lock leaves the held locks unchanged
abbrev pub KeepsLocks : Type 0
KeepsLocks =
    (log : List Note) (note : Note)
    → IsTimely log → value_read note ≡ None
    → held_locks (log ++ note ∷ []) ≡ held_locks log

-- the values of the table are the values that a report lists as locked
abbrev pub ValuesAreHeld : Type 0
ValuesAreHeld =
    (log : List Note) (table : List SignedLock) → map as_statement table ≡ held_locks log → values_of table ≡ held_values log

-- the table is full for a value exactly if the log holds locks on four others
abbrev pub FullAlike : Type 0
FullAlike =
    (log : List Note) (table : List SignedLock) → map as_statement table ≡ held_locks log
    → (v : Value) → has_four_others v table ≡ is_full log v

-- the note may come next: if it reads a statement, it does so in the open round, and the statement is of that round's phase
abbrev pub is_on_time : ℕ → Note → Bool
is_on_time c (Read d s) = (d == c) && has_phase c s.statement
is_on_time c _ = true

-- a timely log stays timely under such notes
abbrev pub StaysTimely : Type 0
StaysTimely = (log : List Note) (note : Note) → IsTimely log → is_on_time (clock_of log) note ≡ true → IsTimely (log ++ note ∷ [])

-- the log of a lawful history is timely at each height
abbrev pub LogsAreTimely : Type 0
LogsAreTimely =
    (meaning : Meanings) (config : Config) (ring : Ring) (id h : ℕ) (entries : List Entry) → Replay meaning config ring id entries
    → IsTimely (log_of config id h entries)
