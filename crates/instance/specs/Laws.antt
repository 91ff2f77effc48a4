-- An instance keeps step with the log of its height.
use Rattle.std.specs.Prelude.{◌≡◌, ℕ, ◌+◌, ◌^◌, ◌<◌, ◌≤◌, Bool, true, false, IsTrue, List, [], ◌∷◌, ◌++◌, map, Option, Some, None, Ok}
use Rattle.std.specs.List.{flat_map, AllByRecursion}
use Rattle.ledger_model.specs.declared.config.Config.{Config}
use Rattle.ledger_model.specs.declared.statement.SignedStatement.{SignedStatement}
use Rattle.ledger_model.specs.declared.statement.Statement.{Statement}
use Rattle.ledger_model.specs.declared.statement.Statement.TheVariants as statement
use Rattle.ledger_model.specs.Values.{Value, IsValueIn}
use Rattle.ledger_model.specs.declared.version.Version.{Version}
use Rattle.ledger_model.specs.Rounds.{place_of, release_place}
use Rattle.ledger_model.specs.Notes.{Note, Proposed, Round, Read, clock_of, signer_of}
use Rattle.ledger_model.specs.Logs.{height_of, made_notes, own_ack}
use Rattle.ledger_model.specs.Rules.{Ring, MayMake, answer_to, first_of, is_signed, place_causes, is_repeated}
use Rattle.ledger_model.specs.Reading.{reading}
use Rattle.lock_proofs.specs.LockTables.{SignedLock, as_statement}
use Rattle.ledger_model.specs.Lawful.{held_locks, are_signed_reports}
use Rattle.ledger_model.specs.Spelling.{IsFrame, IsFrameIn, frame_bytes}
use Rattle.instance.specs.declared.round_statement.RoundStatement.{RoundStatement}
use Rattle.instance.specs.declared.round_statement.RoundStatement.TheVariants as made
use Rattle.instance.specs.Instances.{InstanceView}
use Rattle.instance.specs.Matching.{MatchesLog, IsSoundInstance, only_rounds}
use Rattle.instance.specs.Reads.{opened_row, round_causes, row_causes, after_read}
use Rattle.instance.specs.Plans.{MaySend, chosen_statement, opened_effects, is_mute_made, own_statement_sent, closed}

-- an instance that opens in any round matches the log of rounds and its proposal
abbrev pub Opens : Type 0
Opens =
    (config : Config) (id height : ℕ) (own : Value) (ring : Ring) (log : List Note)
    → id < config.replicas → (1 ≤ height) × (height < 2 ^ 32) → IsValueIn config.frames own → only_rounds log ≡ true
    → MatchesLog ring (opened_row config id height own) (log ++ Proposed own ∷ [])

-- the answer to a statement is the one by the log
abbrev pub AnswersStatement : Type 0
AnswersStatement =
    (ring : Ring) (row : InstanceView) (log : List Note) (s : SignedStatement)
    → MatchesLog ring row log → signer_of s.statement < row.config.replicas
    → first_of (row_causes row ring (clock_of log) s) ≡ answer_to row.config ring log s

-- the first of the causes that don't depend on the signature is the one by the log
abbrev pub Judges : Type 0
Judges =
    (ring : Ring) (row : InstanceView) (log : List Note) (s : Statement)
    → MatchesLog ring row log
    → first_of (round_causes row (clock_of log) s) ≡ first_of (place_causes row.config (clock_of log) (is_repeated log s) s [])

-- after an accepted statement the instance matches the log with its note
abbrev pub MatchesAfterNote : Type 0
MatchesAfterNote =
    (ring : Ring) (row : InstanceView) (log : List Note) (s : SignedStatement)
    → MatchesLog ring row log → signer_of s.statement < row.config.replicas → height_of s.statement ≡ row.height
    → IsFrameIn row.config.frames s
    → first_of (row_causes row ring (clock_of log) s) ≡ Ok tt
    → MatchesLog ring (after_read row (clock_of log) s) (log ++ Read (clock_of log) s ∷ [])

-- ---- what a replica may make

-- the statements that are sent, and an owner's acknowledgement of its own lock, which is not sent
abbrev pub with_unsent : List Statement → InstanceView → List Note → ℕ → Bool → List Statement
with_unsent sent row log c mute = sent ++ map (λ s. s.statement) (own_ack row.config row.id row.height log c mute)

-- the statement that is sent, if one is, as a list
abbrev pub as_statements : Option Statement → List Statement
as_statements None = []
as_statements (Some s) = s ∷ []

-- the log allows a replica that is not mute to send this, or nothing, as round c opens
abbrev pub MayBeSent : InstanceView → List Note → ℕ → Option Statement → Type 0
MayBeSent row log c sent = MayMake row.config row.id row.height log c false (with_unsent (as_statements sent) row log c false)

-- what the instance allows, the log allows
abbrev pub Allows : Type 0
Allows =
    (ring : Ring) (row : InstanceView) (log : List Note) (sent : Option Statement) → MatchesLog ring row log
    → MaySend row (clock_of log + 1) sent → MayBeSent row log (clock_of log + 1) sent

-- what the log allows, the instance allows
abbrev pub Allowed : Type 0
Allowed =
    (ring : Ring) (row : InstanceView) (log : List Note) (sent : Option Statement) → MatchesLog ring row log
    → MayBeSent row log (clock_of log + 1) sent → MaySend row (clock_of log + 1) sent

-- what the instance chooses, it allows
abbrev pub Chooses : Type 0
Chooses =
    (ring : Ring) (row : InstanceView) (log : List Note) → MatchesLog ring row log
    → MaySend row (clock_of log + 1) (chosen_statement row (clock_of log + 1))

-- if the instance allows a lock, the reports in its proof are signed
abbrev pub ProvesSigned : Type 0
ProvesSigned =
    (ring : Ring) (row : InstanceView) (log : List Note) (s : Statement) → MatchesLog ring row log
    → MaySend row (clock_of log + 1) (Some s) → IsTrue (are_signed_reports ring s)

-- in a lock-release round the instance sends on the locks that the log holds
abbrev pub SendsOn : Type 0
SendsOn =
    (ring : Ring) (row : InstanceView) (log : List Note) → MatchesLog ring row log → place_of (clock_of log + 1) ≡ release_place
    → (opened_effects row (clock_of log + 1)).sends_on ≡ map frame_bytes (held_locks log)

-- a frame that is sent on reads back as a lock of the height whose signature and whose reports verify
pub record IsLockSentOn (ring : Ring) (height : ℕ) (frame : List ℕ) : Type 0 where
  pub lock : SignedLock
  pub is : frame ≡ frame_bytes (as_statement lock)
  pub reads : reading frame ≡ Some (as_statement lock)
  pub of_height : lock.lock.height ≡ height
  pub signed : IsTrue (is_signed ring (as_statement lock))
  pub proof_signed : IsTrue (are_signed_reports ring (statement.Lock lock.lock))

-- each frame that is sent on is a signed lock of the height
abbrev pub SendsLocks : Type 0
SendsLocks =
    (ring : Ring) (row : InstanceView) (log : List Note) (c : ℕ) → MatchesLog ring row log
    → AllByRecursion (IsLockSentOn ring row.height) (opened_effects row c).sends_on

-- ---- opening the next round

-- what the replica makes by the log: what it sends, and an owner's acknowledgement of its own lock
abbrev pub made_in : InstanceView → List Note → ℕ → RoundStatement → List SignedStatement
made_in row log c m = own_statement_sent m ++ own_ack row.config row.id row.height log c (is_mute_made m)

-- the log allows the replica to make this
abbrev pub MayClose : InstanceView → List Note → ℕ → RoundStatement → Type 0
MayClose row log c m = MayMake row.config row.id row.height log c (is_mute_made m) (map (λ s. s.statement) (made_in row log c m))

-- the log, continued with the round and with what is made in it
abbrev pub opened_by : InstanceView → List Note → ℕ → RoundStatement → List Note
opened_by row log c m = log ++ Round c ∷ flat_map (made_notes log c) (made_in row log c m)

-- a statement that is sent has a signature that verifies
abbrev pub IsSignedMade : Ring → RoundStatement → Type 0
IsSignedMade ring made.Mute = Unit {0}
IsSignedMade ring made.Unsent = Unit {0}
IsSignedMade ring (made.Sent f) = IsTrue (is_signed ring f)

-- a statement that is sent is a frame
abbrev pub IsFrameMade : RoundStatement → Type 0
IsFrameMade made.Mute = Unit {0}
IsFrameMade made.Unsent = Unit {0}
IsFrameMade (made.Sent f) = IsFrame f

-- after a round end the instance matches the log that continues with it
abbrev pub Closes : Type 0
Closes =
    (ring : Ring) (row : InstanceView) (log : List Note) (m : RoundStatement)
    → MatchesLog ring row log → MayClose row log (clock_of log + 1) m → IsSignedMade ring m → IsFrameMade m
    → MatchesLog ring (closed row (clock_of log + 1) (opened_effects row (clock_of log + 1)) m) (opened_by row log (clock_of log + 1) m)

-- after an accepted statement everything in the instance can be encoded, and each held lock is valid
abbrev pub ReadsSound : Type 0
ReadsSound =
    (ring : Ring) (row : InstanceView) (log : List Note) (s : SignedStatement)
    → MatchesLog ring row log → height_of s.statement ≡ row.height → IsFrameIn row.config.frames s
    → first_of (row_causes row ring (clock_of log) s) ≡ Ok tt
    → IsSoundInstance ring (after_read row (clock_of log) s)
