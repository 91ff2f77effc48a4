-- Histories that lock, decide and commit: of four replicas, 0, 1 and 2 are correct. Each proposes [a=1]. Replica 1 owns phase 1: it reads
-- the reports of 0 and 2, locks [a=1], reads their acknowledgements, decides, and runs the block.
use Rattle.ledger_model.specs.Kinds.{meaning_of}
use Rattle.std.specs.Prelude.{◌≡◌, ℕ, ◌≤◌, ◌&&◌, true, false, List, [], ◌∷◌, Some, Ok}
use Rattle.ledger_model.specs.declared.config.AppKind.TheVariants.{KvStore}
use Rattle.ledger_model.specs.declared.version.Version.TheVariants.{One}
use Rattle.ledger_model.specs.declared.statement.Report.{Report}
use Rattle.ledger_model.specs.declared.statement.SignedReport.{SignedReport}
use Rattle.ledger_model.specs.declared.statement.SignedStatement.{SignedStatement}
use Rattle.ledger_model.specs.declared.statement.Statement.{Statement}
use Rattle.ledger_model.specs.declared.statement.Statement.TheVariants as statement
use Rattle.ledger_model.specs.declared.event.Event.TheVariants as event
use Rattle.ledger_model.specs.declared.reply.Reply.TheVariants as reply
use Rattle.ledger_model.specs.declared.reply.Addressee.TheVariants as addressee
use Rattle.ledger_model.specs.declared.history.Entry.{Entry}
use Rattle.ledger_model.specs.declared.history.History.{History}
use Rattle.ledger_model.specs.Rounds.{number_of}
use Rattle.ledger_model.specs.Spelling.{frame_bytes, IsFrameIn}
use Rattle.ledger_model.specs.Locks.{took, decided_of}
use Rattle.ledger_model.specs.Rules.{Ring, is_signed}
use Rattle.ledger_model.specs.Commits.{commits_of}
use Rattle.ledger_model.specs.Groups.{AreCorrect, ReadsBacked, AllProposed, is_correct, log_in}
use Rattle.ledger_laws.specs.Examples.{four, a, tx_a, first_report, quiet_end}
use Rattle.ledger_laws.specs.Vacuity.{takes, proposes, send_entry, accept_entry, runs_block, first_result, three}

-- a signature for each statement
abbrev pub Signing : Type 0
Signing = Statement → List ℕ

-- the statement with its signature
abbrev pub sign_with : Signing → Statement → SignedStatement
sign_with sign s = record { statement = s; signature = sign s }

-- the report of a replica that proposed [a=1], in phase 1 of height 1
abbrev pub plain_report : ℕ → Report
plain_report r = record first_report { signer = r }

-- that report, signed
abbrev pub report_sent : Signing → ℕ → SignedStatement
report_sent sign r = sign_with sign (statement.Report (plain_report r))

-- that report in a proof
abbrev pub report_shown : Signing → ℕ → SignedReport
report_shown sign r = record { report = plain_report r; signature = sign (statement.Report (plain_report r)) }

-- the lock of replica 1 on [a=1], with the reports of 0, 1 and 2 as its proof, signed
abbrev pub lock_sent : Signing → SignedStatement
lock_sent sign = sign_with sign (statement.Lock (record {
  version = One;
  height = 1;
  phase = 1;
  signer = 1;
  value = a;
  proof = report_shown sign 0 ∷ report_shown sign 1 ∷ report_shown sign 2 ∷ [];
}))

-- the replica's acknowledgement of that lock, signed
abbrev pub ack_sent : Signing → ℕ → SignedStatement
ack_sent sign r = sign_with sign (statement.Ack (record { version = One; height = 1; phase = 1; signer = r; value = a }))

-- the statement is signed under the ring, and a frame of version 1 can carry it
pub record IsSendable (ring : Ring) (s : SignedStatement) : Type 0 where
  pub signed : is_signed ring s ≡ true
  pub frame : IsFrameIn One s

-- all statements of the run are
pub record AreSendable (ring : Ring) (sign : Signing) : Type 0 where
  pub report : (r : ℕ) → r ≤ 2 → IsSendable ring (report_sent sign r)
  pub lock : IsSendable ring (lock_sent sign)
  pub ack_0 : IsSendable ring (ack_sent sign 0)
  pub ack_2 : IsSendable ring (ack_sent sign 2)

-- a round ends, and the replica sends its acknowledgement to replica 1
abbrev pub acknowledges : SignedStatement → Entry
acknowledges s = record {
  event = event.RoundEnd;
  reply = reply.RoundEnded (Ok (record { mute = false; frames = record { addressee = addressee.One 1; frame = frame_bytes s } ∷ [] }));
}

-- the history of replica 1: as round 3 opens it makes its own acknowledgement, which is in no frame; as round 4 opens it sends its lock on
abbrev pub owner_entries : Signing → List Entry
owner_entries sign =
    takes tx_a ∷ proposes a ∷ send_entry (report_sent sign 1) ∷ accept_entry (report_sent sign 0) ∷ accept_entry (report_sent sign 2)
    ∷ send_entry (lock_sent sign) ∷ quiet_end ∷ accept_entry (ack_sent sign 0) ∷ accept_entry (ack_sent sign 2) ∷ send_entry (lock_sent sign)
    ∷ runs_block (first_result a) ∷ []

-- the history of replica 0 or 2
abbrev pub other_entries : Signing → ℕ → List Entry
other_entries sign r =
    takes tx_a ∷ proposes a ∷ send_entry (report_sent sign r) ∷ quiet_end ∷ accept_entry (lock_sent sign) ∷ acknowledges (ack_sent sign r) ∷ []

-- the histories of the three
abbrev pub plain_histories : Signing → List History
plain_histories sign = three (other_entries sign 0) (owner_entries sign) (other_entries sign 2)

-- Under every ring whose keys verify the signatures of these histories, they are lawful, what they read was made, and they proposed
-- one batch. More than t correct replicas took the lock of a correct owner, which decided and committed. So they meet the premises of
-- the laws `one_lock`, `one_decision`, `common_proposal` and `one_ledger`, if a ring verifies such signatures.
abbrev pub PlainRunCommits : Type 0
PlainRunCommits =
    (ring : Ring) (sign : Signing) → AreSendable ring sign
    → AreCorrect meaning_of (four KvStore) ring (plain_histories sign)
    × ((h : ℕ) → ReadsBacked (four KvStore) (plain_histories sign) h)
    × AllProposed (four KvStore) (plain_histories sign) 1 a
    × (3 ≤ number_of (four KvStore) (λ r. is_correct (plain_histories sign) r && took (log_in (four KvStore) (plain_histories sign) 1 r) a 1))
    × (decided_of (four KvStore) (log_in (four KvStore) (plain_histories sign) 1 1) ≡ Some a)
    × (commits_of (four KvStore) 1 (owner_entries sign) ≡ a ∷ [])
