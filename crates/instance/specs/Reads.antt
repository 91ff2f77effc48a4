-- An instance's answer to a statement, and its state afterwards.
use Rattle.std.specs.Prelude.{◌≡◌, ℕ, ◌==◌, Bool, false, not, ◌&&◌, List, [], ◌∷◌, Some, None, is_some, slice_set, Result, Ok, Err}
use Rattle.std.specs.Prelude.{replicate, if◌then◌else◌}
use Rattle.std.specs.Option.{option_map_or}
use Rattle.ledger_model.specs.declared.config.Config.{Config}
use Rattle.ledger_model.specs.declared.reply.Ignored.{Ignored}
use Rattle.ledger_model.specs.declared.reply.Ignored.TheVariants as cause
use Rattle.ledger_model.specs.declared.statement.SignedStatement.{SignedStatement}
use Rattle.ledger_model.specs.declared.statement.Statement.{Statement}
use Rattle.ledger_model.specs.declared.statement.Statement.TheVariants as statement
use Rattle.ledger_model.specs.Values.{Value, same_value}
use Rattle.ledger_model.specs.Rounds.{phase_of, place_of, lock_place}
use Rattle.ledger_model.specs.Notes.{is_lock, is_ack}
use Rattle.ledger_model.specs.Rules.{Ring, is_signed, is_proved, place_causes, proof_causes}
use Rattle.proper_sets.specs.Propriety.{only_own}
use Rattle.tally.specs.Tallies.{read_of}
use Rattle.lock_proofs.specs.LockTables.{with_lock, has_four_others, released}
use Rattle.lock_proofs.specs.declared.fault.LockFault.{LockFault}
use Rattle.lock_proofs.specs.declared.fault.LockFault.TheVariants as fault
use Rattle.instance.specs.Instances.{InstanceView}

-- an instance that was just opened
abbrev pub opened_row : Config → ℕ → ℕ → Value → InstanceView
opened_row config id height own = record {
  config = config;
  id = id;
  height = height;
  proper = only_own own;
  table = [];
  reports = replicate config.replicas None;
  acks = replicate config.replicas None;
  taken = None;
  made = None;
  decided = None;
}

-- the instance already has such a statement
abbrev pub is_kept_already : InstanceView → ℕ → Statement → Bool
is_kept_already row c (statement.Report r) = is_some (read_of row.reports r.signer)
is_kept_already row c (statement.Lock l) = (place_of c == lock_place) && is_some row.taken
is_kept_already row c (statement.Ack a) = is_some (read_of row.acks a.signer)

-- the causes that depend on the statement and the round alone: another round, another phase, not the owner, or a repetition
abbrev pub round_causes : InstanceView → ℕ → Statement → List (Bool × Ignored)
round_causes row c s = place_causes row.config c (is_kept_already row c s) s []

-- the causes that follow those
abbrev pub kept_causes : InstanceView → Ring → ℕ → SignedStatement → List (Bool × Ignored)
kept_causes row ring c s =
    proof_causes row.config ring ((place_of c == lock_place) && is_lock (λ l. has_four_others l.value row.table) s.statement)
    (is_ack (λ a. not (option_map_or (same_value a.value) row.made false)) s.statement) s

-- all causes from the fourth on, in order, each with whether it applies in round c
abbrev pub row_causes : InstanceView → Ring → ℕ → SignedStatement → List (Bool × Ignored)
row_causes row ring c s = place_causes row.config c (is_kept_already row c s.statement) s.statement (kept_causes row ring c s)

-- the instance after it read a report, a lock or an acknowledgement in round c
abbrev pub with_statement : InstanceView → ℕ → List ℕ → Statement → InstanceView
with_statement row c signature (statement.Report r) =
    record row { reports = slice_set row.reports r.signer (Some (record { report = r; signature = signature })) }
with_statement row c signature (statement.Lock l) =
    if place_of c == lock_place then record row {
      table = with_lock (record { lock = l; signature = signature }) row.table;
      taken =
          Some l.value;
    }
    else record row { table = released (phase_of c) l row.table }
with_statement row c signature (statement.Ack a) = record row { acks = slice_set row.acks a.signer (Some a) }

-- the instance after it read the statement in round c
abbrev pub after_read : InstanceView → ℕ → SignedStatement → InstanceView
after_read row c s = with_statement row c s.signature s.statement

-- the new instance if the statement was accepted, else the old one
abbrev pub if_accepted : Result (Unit {0}) Ignored → InstanceView → InstanceView → InstanceView
if_accepted (Ok x) new old = new
if_accepted (Err c) new old = old

-- the causes that remain for a report
abbrev pub report_causes : Ring → SignedStatement → List (Bool × Ignored)
report_causes ring s = (not (is_signed ring s), cause.BadSignature) ∷ []

-- the causes that remain for a lock
abbrev pub lock_causes : InstanceView → Ring → ℕ → SignedStatement → List (Bool × Ignored)
lock_causes row ring c s =
    (not (is_signed ring s), cause.BadSignature)
    ∷ (is_lock (λ l. not (is_proved row.config ring l)) s.statement, cause.BadProof)
    ∷ ((place_of c == lock_place) && is_lock (λ l. has_four_others l.value row.table) s.statement, cause.TableFull)
    ∷ []

-- the cause that remains for a valid lock on the value; `taken` is whether it would be taken
abbrev pub room_causes : Bool → InstanceView → Value → List (Bool × Ignored)
room_causes taken row value = (taken && has_four_others value row.table, cause.TableFull) ∷ []

-- the causes that remain for an acknowledgement
abbrev pub ack_causes : InstanceView → Ring → SignedStatement → List (Bool × Ignored)
ack_causes row ring s =
    (not (is_signed ring s), cause.BadSignature)
    ∷ (is_ack (λ a. not (option_map_or (same_value a.value) row.made false)) s.statement, cause.NotMine)
    ∷ []

-- the cause with which a lock with this fault is ignored
abbrev pub cause_of_fault : LockFault → Ignored
cause_of_fault fault.NotOwner = cause.NotOwner
cause_of_fault fault.BadSignature = cause.BadSignature
cause_of_fault fault.BadProof = cause.BadProof
cause_of_fault fault.NotSupporting = cause.BadProof

-- both instances are of the same replica at the same height
pub record IsSameHeight (old new : InstanceView) : Type 0 where
  pub config : new.config ≡ old.config
  pub id : new.id ≡ old.id
  pub height : new.height ≡ old.height
  pub own : new.proper.own ≡ old.proper.own
