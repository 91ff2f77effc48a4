-- The lists that were read in a phase agree with the log.
use Rattle.std.specs.Prelude.{◌≡◌, ℕ, true, List}
use Rattle.ledger_model.specs.declared.config.Config.{Config}
use Rattle.ledger_model.specs.declared.statement.Ack.{Ack}
use Rattle.ledger_model.specs.declared.statement.Report.{Report}
use Rattle.ledger_model.specs.Values.{Value, same_value}
use Rattle.ledger_model.specs.Rounds.{round_at, lock_place}
use Rattle.ledger_model.specs.Notes.{Note, is_lock, was_made}
use Rattle.ledger_model.specs.Locks.{is_supported, is_acked}
use Rattle.tally.specs.Readings.{AreReadIn, AreAcksIn}
use Rattle.phase_core.specs.Choices.{is_found_by, is_decided_by}

-- a quorum's reports find a value exactly if the log supports a lock on it
abbrev pub FoundIsSupported : Type 0
FoundIsSupported =
    (config : Config) (log : List Note) (k : ℕ) (reports : List Report) → AreReadIn config log k reports
    → (v : Value) → is_found_by config reports v ≡ is_supported config log k v

-- the acknowledgements decide a lock that was made exactly if the log decides its value
abbrev pub DecidedIsAcked : Type 0
DecidedIsAcked =
    (config : Config) (log : List Note) (k : ℕ) (acks : List Ack) → AreAcksIn config log k acks
    → (v : Value) → was_made log (round_at lock_place k) (is_lock (λ l. same_value v l.value)) ≡ true
    → is_decided_by config acks k v ≡ is_acked config log k v
