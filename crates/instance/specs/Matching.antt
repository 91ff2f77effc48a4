-- When the state of an instance is what the log of its height says.
use Rattle.std.specs.Prelude.{◌≡◌, ℕ, ◌+◌, ◌^◌, ◌<◌, ◌≤◌, ◌==◌, Bool, true, false, IsTrue, IfSome, List, length, map, Option, Some, is_some}
use Rattle.std.specs.Prelude.{if◌then◌else◌}
use Rattle.std.specs.List.{list_any, list_all}
use Rattle.std.specs.Option.{option_map_or}
use Rattle.ledger_model.specs.declared.config.Config.{Config}
use Rattle.ledger_model.specs.declared.statement.Ack.{Ack}
use Rattle.ledger_model.specs.declared.statement.Report.{Report}
use Rattle.ledger_model.specs.declared.statement.SignedReport.{SignedReport}
use Rattle.ledger_model.specs.declared.statement.Statement.{Statement}
use Rattle.ledger_model.specs.Rounds.{phase_of, place_of, round_at, ack_place, lock_place, report_place}
use Rattle.ledger_model.specs.Notes.{Note, Round, OwnStatement, Read, Has, clock_of, open_of, is_report, is_lock, is_ack}
use Rattle.ledger_model.specs.Notes.{was_read, was_made}
use Rattle.ledger_model.specs.Values.{Value, IsValueIn}
use Rattle.ledger_model.specs.declared.version.Version.{Version}
use Rattle.ledger_model.specs.Locks.{value_taken, decided_of}
use Rattle.ledger_model.specs.Lawful.{held_locks}
use Rattle.ledger_model.specs.Rules.{Ring, is_signed, with_signature, is_proved}
use Rattle.proper_sets.specs.Propriety.{ProperSet}
use Rattle.tally.specs.Readings.{reports_of}
use Rattle.tally.specs.Tallies.{Places, all_read, read_of}
use Rattle.lock_proofs.specs.LockTables.{SignedLock, as_statement}
use Rattle.ledger_model.specs.Spelling.{IsFrameIn, IsSignedReport, IsValueList}
use Rattle.lock_proofs.specs.Tables.{values_of}
use Rattle.proper_sets.specs.Laws.{proper_at}
use Rattle.lock_proofs.specs.Laws.{IsTimely}
use Rattle.instance.specs.Instances.{InstanceView}

-- the phase for whose opening the stored set of proper values is: it absorbs the reports of a phase as the phase's
-- first round closes
abbrev pub proper_phase : ℕ → ℕ
proper_phase c = if place_of c == report_place then phase_of c else phase_of c + 1

-- the stored report of replica r is one of phase k that was read, and it is signed and can be encoded
pub record IsStoredReport (version : Version) (ring : Ring) (height : ℕ) (log : List Note) (k r : ℕ) (s : SignedReport) : Type 0 where
  pub of_height : s.report.height ≡ height
  pub of_phase : s.report.phase ≡ k
  pub of_signer : s.report.signer ≡ r
  pub signed : IsTrue (is_signed ring (with_signature s))
  pub spelled : IsSignedReport version s
  pub read : Has log (Read (round_at report_place k) (with_signature s))

-- the stored reports are those that were read in phase k, each at its signer's place
pub record ReportsMatch (version : Version) (ring : Ring) (replicas height : ℕ) (log : List Note) (k : ℕ) (places : Places SignedReport) :
    Type 0 where
  pub count : length places ≡ replicas
  pub same : (test : Report → Bool) → was_read log (round_at report_place k) (is_report test) ≡ list_any test (reports_of (all_read places))
  pub kept : (r : ℕ) (s : SignedReport) → read_of places r ≡ Some s → IsStoredReport version ring height log k r s
  pub every : (s : SignedReport) → Has log (Read (round_at report_place k) (with_signature s)) → read_of places s.report.signer ≡ Some s

-- the stored values are those of the lock that was taken in phase k, and of the lock that was made
pub record LockMatches (log : List Note) (k : ℕ) (value own : Option Value) : Type 0 where
  pub locked : was_read log (round_at lock_place k) (is_lock (λ l. true)) ≡ is_some value
  pub taken : value ≡ value_taken log k
  pub made : (test : Value → Bool) → was_made log (round_at lock_place k) (is_lock (λ l. test l.value)) ≡ option_map_or test own false

-- the stored acknowledgements are those that were read in phase k, each at its signer's place
pub record AcksMatch (replicas : ℕ) (log : List Note) (k : ℕ) (places : Places Ack) : Type 0 where
  pub count : length places ≡ replicas
  pub same : (test : Ack → Bool) → was_read log (round_at ack_place k) (is_ack test) ≡ list_any test (all_read places)
  pub ackers : (r : ℕ) (a : Ack) → read_of places r ≡ Some a → a.signer ≡ r

-- the report that is stored for replica r is that replica's, and can be encoded with its signature
pub record IsKeptReport (version : Version) (r : ℕ) (s : SignedReport) : Type 0 where
  pub of_signer : s.report.signer ≡ r
  pub spelled : IsSignedReport version s

-- the proper values can be encoded in a statement of this version
pub record IsSpelledSet (version : Version) (proper : ProperSet) : Type 0 where
  pub own : IsValueIn version proper.own
  pub explicit : IsValueList version proper.explicit
  pub some : 1 ≤ length proper.explicit

-- everything in the instance can be encoded in a statement of the cluster's version
pub record IsSpelled (row : InstanceView) : Type 0 where
  pub heights : (1 ≤ row.height) × (row.height < 2 ^ 32)
  pub own : IsValueIn row.config.frames row.proper.own
  pub proper : IsValueList row.config.frames row.proper.explicit
  pub some : 1 ≤ length row.proper.explicit
  pub locked : IsValueList row.config.frames (values_of row.table)
  pub taken : IfSome row.taken (IsValueIn row.config.frames)
  pub reports : (r : ℕ) (s : SignedReport) → read_of row.reports r ≡ Some s → IsKeptReport row.config.frames r s

-- a held lock is of this height and has a frame, its signature verifies, and its proof is valid
pub record IsHeldLock (ring : Ring) (config : Config) (height : ℕ) (s : SignedLock) : Type 0 where
  pub of_height : s.lock.height ≡ height
  pub frame : IsFrameIn config.frames (as_statement s)
  pub signed : IsTrue (is_signed ring (as_statement s))
  pub proved : IsTrue (is_proved config ring s.lock)

-- everything in the instance can be encoded, and each held lock is valid
pub record IsSoundInstance (ring : Ring) (row : InstanceView) : Type 0 where
  pub spelled : IsSpelled row
  pub held : (s : SignedLock) → Has row.table s → IsHeldLock ring row.config row.height s

-- the instance matches the log, where k is the open phase; at clock 0 this is phase 0, in which nothing is read or made
pub record MatchesIn (ring : Ring) (row : InstanceView) (log : List Note) (k : ℕ) : Type 0 where
  pub member : row.id < row.config.replicas
  pub sound : IsSoundInstance ring row
  pub opened : open_of log ≡ Some row.proper.own
  pub timely : IsTimely log
  pub made_by_now : (c : ℕ) (s : Statement) → Has log (OwnStatement c s) → c ≤ clock_of log
  pub proper : row.proper ≡ proper_at row.config row.id log (proper_phase (clock_of log)) row.proper.own
  pub locks : map as_statement row.table ≡ held_locks log
  pub decided : row.decided ≡ decided_of row.config log
  -- what was read and made in the open phase
  pub reports : ReportsMatch row.config.frames ring row.config.replicas row.height log k row.reports
  pub lock : LockMatches log k row.taken row.made
  pub acks : AcksMatch row.config.replicas log k row.acks

-- the instance matches the log of its height
abbrev pub MatchesLog : Ring → InstanceView → List Note → Type 0
MatchesLog ring row log = MatchesIn ring row log (phase_of (clock_of log))

-- the note opens a round
abbrev pub is_round : Note → Bool
is_round (Round c) = true
is_round _ = false

-- the log contains only opened rounds: the height was not opened yet
abbrev pub only_rounds : List Note → Bool
only_rounds log = list_all is_round log
