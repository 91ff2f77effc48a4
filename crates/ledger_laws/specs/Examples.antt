-- Worked examples. A letter that names a value is the batch of one transaction, which is the letter followed by =1.
use Rattle.ledger_model.specs.Kinds.{meaning_of}
use Rattle.std.proofs.Common.{lit≤}
use Rattle.std.specs.Prelude.{◌≡◌, ℕ, Bool, true, false, List, [], ◌∷◌, ◌++◌, length, replicate, Some, None, Ok, Err}
use Rattle.ledger_model.specs.declared.config.Config.{Config}
use Rattle.ledger_model.specs.declared.version.Version.TheVariants.{One, Two}
use Rattle.ledger_model.specs.declared.config.AppKind.{AppKind}
use Rattle.ledger_model.specs.declared.config.AppKind.TheVariants.{KvStore, Counter, Purse}
use Rattle.ledger_model.specs.declared.statement.Report.{Report}
use Rattle.ledger_model.specs.declared.statement.Lock.{Lock}
use Rattle.ledger_model.specs.declared.statement.SignedReport.{SignedReport}
use Rattle.ledger_model.specs.declared.statement.SignedStatement.{SignedStatement}
use Rattle.ledger_model.specs.declared.statement.Statement.TheVariants as statement
use Rattle.ledger_model.specs.declared.history.Entry.{Entry}
use Rattle.ledger_model.specs.declared.event.Event.TheVariants as event
use Rattle.ledger_model.specs.declared.reply.Reply.TheVariants as reply
use Rattle.ledger_model.specs.declared.reply.SubmitRefusal.TheVariants as refusal
use Rattle.ledger_model.specs.declared.reply.ProposeRefusal.TheVariants as closed
use Rattle.ledger_model.specs.declared.reply.Ignored.{Ignored}
use Rattle.ledger_model.specs.declared.reply.Ignored.TheVariants as cause
use Rattle.ledger_model.specs.declared.world.WorldStep.{WorldStep}
use Rattle.ledger_model.specs.declared.world.WorldStep.TheVariants as step
use Rattle.ledger_model.specs.declared.world.WorldReply.{WorldReply}
use Rattle.ledger_model.specs.declared.world.WorldReply.TheVariants as answer
use Rattle.ledger_model.specs.declared.world.WorldRefusal.TheVariants as refused
use Rattle.ledger_model.specs.Values.{Value, value_bytes}
use Rattle.ledger_model.specs.Notes.{Note, Proposed, Round, OwnStatement, Read}
use Rattle.ledger_model.specs.Locks.{decided_of, held_values}
use Rattle.ledger_model.specs.Logs.{log_of}
use Rattle.ledger_model.specs.Proper.{is_all_proper, proper_values}
use Rattle.ledger_model.specs.Spelling.{report_bytes, frame_bytes}
use Rattle.ledger_model.specs.Reading.{reading, value_at}
use Rattle.ledger_model.specs.Signatures.{Params, coef, checksum}
use Rattle.ledger_model.specs.Applications.{codes}
use Rattle.ledger_model.specs.Replies.{check_reply, query_reply}
use Rattle.ledger_model.specs.Commits.{pool_after_block}
use Rattle.ledger_model.specs.Lawful.{held_locks, Replay}
use Rattle.ledger_model.specs.Worlds.{World, beginning, Runs}

-- a cluster of four replicas, of which one may lie
abbrev pub four : AppKind → Config
four kind = record { replicas = 4; faults = 1; kind = kind; frames = One; enough = lit≤ tt; bounded = lit≤ tt; tolerant = lit≤ tt }

-- the value of the one transaction that sets this letter to 1
abbrev pub one : ℕ → Value
one letter = (letter ∷ 0x3d ∷ 0x31 ∷ []) ∷ []

-- [a=1]
abbrev pub a : Value
a = one 0x61

-- [b=1]
abbrev pub b : Value
b = one 0x62

-- [c=1]
abbrev pub c : Value
c = one 0x63

-- [d=1]
abbrev pub d : Value
d = one 0x64

-- [m=1]
abbrev pub m : Value
m = one 0x6d

-- [x=1]
abbrev pub x : Value
x = one 0x78

-- [y=1]
abbrev pub y : Value
y = one 0x79

-- ---- the proper values of replica 0 of four as phase 2 opens, by its own value and what it read in phase 1

-- the note of a report that was read: its signer, its initial value, whether it names every value, and the values that it lists
abbrev pub report_note : ℕ → Value → Bool → List Value → Note
report_note signer initial all proper = Read 1 (record {
  statement = statement.Report (record {
    version = One;
    height = 1;
    phase = 1;
    signer = signer;
    all = all;
    initial = initial;
    proper = proper;
    locked =
        [];
  });
  signature = [];
})

-- the log of a replica that proposed the value, opened round 1 and read these reports
abbrev pub opened : Value → List Note → List Note
opened own reports = Proposed own ∷ Round 1 ∷ reports

-- the values that are proper by name for replica 0 as phase 2 opens, given these reports
abbrev pub proper_of : Value → List Note → List Value
proper_of own reports = proper_values (four KvStore) 0 (opened own reports) 2 own

-- whether every value is proper for replica 0 as phase 2 opens, given these reports
abbrev pub all_of : Value → List Note → Bool
all_of own reports = is_all_proper (four KvStore) 0 (opened own reports) 2 own

-- two others name y, so y is proper
abbrev pub TwoNameOne : Type 0
TwoNameOne =
    let reports = report_note 1 x false (x ∷ []) ∷ report_note 2 y false (y ∷ []) ∷ report_note 3 y false (y ∷ []) ∷ [] in
    (proper_of x reports ≡ x ∷ y ∷ []) × (all_of x reports ≡ false)

-- three initial values, none of them twice: every value is proper
abbrev pub ThreeDiffer : Type 0
ThreeDiffer = all_of a (report_note 1 b false (b ∷ []) ∷ report_note 2 c false (c ∷ []) ∷ []) ≡ true

-- three initial values, two of them the same: not every value is proper
abbrev pub TwoAgree : Type 0
TwoAgree =
    let reports = report_note 1 a false (a ∷ []) ∷ report_note 2 b false (b ∷ []) ∷ [] in
    (proper_of a reports ≡ a ∷ []) × (all_of a reports ≡ false)

-- The own report lists d, and two others report that every value is proper. Then d isn't proper by name, but it is if
-- one of the two lists it.
abbrev pub OwnListingIsNoOthers : Type 0
OwnListingIsNoOthers =
    let own_lists = report_note 0 a false (d ∷ []) ∷ report_note 1 a true (a ∷ []) ∷ report_note 2 a true (a ∷ []) ∷ [] in
    let other_lists = report_note 1 a true (d ∷ []) ∷ report_note 2 a true (a ∷ []) ∷ [] in
    (proper_of a own_lists ≡ a ∷ []) × (all_of a own_lists ≡ true) × (proper_of a other_lists ≡ a ∷ d ∷ [])

-- two others report that every value is proper
abbrev pub TwoNameAll : Type 0
TwoNameAll = all_of a (report_note 1 a true (a ∷ []) ∷ report_note 2 a true (a ∷ []) ∷ []) ≡ true

-- five values would be proper; the own one and the three least of the others are
abbrev pub CutToFour : Type 0
CutToFour =
    let reports = report_note 1 m false (a ∷ b ∷ c ∷ d ∷ []) ∷ report_note 2 m false (a ∷ b ∷ c ∷ d ∷ []) ∷ [] in
    (proper_of m reports ≡ a ∷ b ∷ c ∷ m ∷ []) × (all_of m reports ≡ false)

-- ---- the locks and decisions of replica 1 of four, which owns phase 1

-- a lock on the value, of this phase and signer, with no proof
abbrev pub a_lock : ℕ → ℕ → Value → Lock
a_lock phase signer v = record { version = One; height = 1; phase = phase; signer = signer; value = v; proof = [] }

-- the note that such a lock was read in the round
abbrev pub reads_lock : ℕ → ℕ → ℕ → Value → Note
reads_lock round phase signer v = Read round (record { statement = statement.Lock (a_lock phase signer v); signature = [] })

-- the note that the signer's acknowledgement of a lock on [a=1] was read at place 3 of phase 1
abbrev pub reads_ack : ℕ → Note
reads_ack signer = Read 3 (record {
  statement = statement.Ack (record { version = One; height = 1; phase = 1; signer = signer; value = a });
  signature =
      [];
})

-- the log of replica 1 after it made a lock on a in phase 1 and opened round 3
abbrev pub to_round_3 : List Note
to_round_3 = Proposed a ∷ Round 1 ∷ Round 2 ∷ OwnStatement 2 (statement.Lock (a_lock 1 1 a)) ∷ reads_lock 2 1 1 a ∷ Round 3 ∷ []

-- Three acknowledgements decide as the round closes, and not before. Two don't decide, and two of the same signer count as one.
abbrev pub ThreeAcksDecide : Type 0
ThreeAcksDecide =
    let decided = λ (notes : List Note). decided_of (four KvStore) (to_round_3 ++ notes) in
    (decided (reads_ack 0 ∷ reads_ack 1 ∷ reads_ack 3 ∷ Round 4 ∷ []) ≡ Some a)
    × (decided (reads_ack 0 ∷ reads_ack 1 ∷ reads_ack 3 ∷ []) ≡ None)
    × (decided (reads_ack 0 ∷ reads_ack 1 ∷ Round 4 ∷ []) ≡ None)
    × (decided (reads_ack 0 ∷ reads_ack 1 ∷ reads_ack 0 ∷ Round 4 ∷ []) ≡ None)

-- The lock on a of phase 1 is released by a lock on b of phase 1 that is read at place 4, but neither by a lock on a
-- nor by one on b of phase 2.
abbrev pub LockReleased : Type 0
LockReleased =
    let held = λ (notes : List Note). held_values (to_round_3 ++ Round 4 ∷ notes) in
    (held [] ≡ a ∷ [])
    × (held (reads_lock 4 1 1 b ∷ []) ≡ [])
    × (held (reads_lock 4 1 1 a ∷ []) ≡ a ∷ [])
    × (held (reads_lock 4 2 2 b ∷ []) ≡ a ∷ [])

-- a lock that is taken later doesn't release the first: both are held
abbrev pub TwoLocksHeld : Type 0
TwoLocksHeld = held_values (to_round_3 ++ Round 4 ∷ Round 5 ∷ Round 6 ∷ reads_lock 6 2 2 b ∷ []) ≡ a ∷ b ∷ []

-- ---- encoding

-- the report of replica 0 on a, at height 1 and phase 1
abbrev pub first_report : Report
first_report = record { version = One; height = 1; phase = 1; signer = 0; all = false; initial = a; proper = a ∷ []; locked = [] }

-- the first report of replica 0, which proposed [a=1], has these 23 bytes
abbrev pub ReportSpelled : Type 0
ReportSpelled =
    (report_bytes first_report
    ≡ 0x01 ∷ 0x00 ∷ 0x00 ∷ 0x00 ∷ 0x01 ∷ 0x00 ∷ 0x00 ∷ 0x00 ∷ 0x01 ∷ 0x00 ∷ 0x00
    ∷ 0x01 ∷ 0x03 ∷ 0x61 ∷ 0x3d ∷ 0x31 ∷ 0x01 ∷ 0x01 ∷ 0x03 ∷ 0x61 ∷ 0x3d ∷ 0x31 ∷ 0x00 ∷ [])
    × (length (report_bytes first_report) ≡ 23)

-- that report with a signature of two bytes
abbrev pub signed_report : SignedStatement
signed_report = record { statement = statement.Report first_report; signature = 5 ∷ 6 ∷ [] }

-- the report of this signer on a, with a signature of one byte
abbrev pub by_signer : ℕ → SignedReport
by_signer signer = record { report = record first_report { signer = signer }; signature = 7 ∷ [] }

-- a lock on [a=1] with this proof
abbrev pub signed_lock : List SignedReport → SignedStatement
signed_lock proof = record {
  statement =
      statement.Lock (record { version = One; height = 1; phase = 1; signer = 1; value = a; proof = proof });
  signature = [];
}

-- frames are read back; one more byte, or a proof whose signers don't ascend, and nothing is read
abbrev pub FramesReadBack : Type 0
FramesReadBack =
    let lock = signed_lock (by_signer 0 ∷ by_signer 1 ∷ by_signer 2 ∷ []) in
    (reading (frame_bytes signed_report) ≡ Some signed_report)
    × (reading (frame_bytes lock) ≡ Some lock)
    × (reading (frame_bytes signed_report ++ 0 ∷ []) ≡ None)
    × (reading (frame_bytes (signed_lock (by_signer 0 ∷ by_signer 2 ∷ by_signer 1 ∷ []))) ≡ None)

-- The longest batch of version 1, 16 transactions of 64 bytes, has 1041 bytes, that of version 2, 64 transactions, has 4161. A count of 17
-- is
-- not read in version 1, nor one of 65 in version 2.
abbrev pub BatchLimits : Type 0
BatchLimits =
    (length (value_bytes (replicate 16 (replicate 64 0x61))) ≡ 1041)
    × (length (value_bytes (replicate 64 (replicate 64 0x61))) ≡ 4161)
    × ((bytes : List ℕ) → value_at One (17 ∷ bytes) ≡ None)
    × ((bytes : List ℕ) → value_at Two (65 ∷ bytes) ≡ None)

-- ---- digits and checksums (RFC 8554, sections 3.1.3 and 4.4)

-- W4 with H5
abbrev pub w4 : Params
w4 = record { width = 4; chains = 67; shift = 4; height = 5; ots_code = 3; lms_code = 5 }

-- W8 with H5
abbrev pub w8 : Params
w8 = record { width = 8; chains = 34; shift = 0; height = 5; ots_code = 4; lms_code = 5 }

-- two digits of the standard's example, and the checksums of 32 zero bytes
abbrev pub DigitsAndChecksums : Type 0
DigitsAndChecksums =
    (coef (0x12 ∷ 0x34 ∷ []) 7 1 ≡ 0) × (coef (0x12 ∷ 0x34 ∷ []) 0 4 ≡ 1)
    × (checksum w8 (replicate 32 0) ≡ 8160) × (checksum w4 (replicate 32 0) ≡ 15360)

-- ---- applications

-- a counter accepts 0, 1 and 2, and then its count is 3
abbrev pub CounterCounts : Type 0
CounterCounts =
    let block = (0x00 ∷ []) ∷ (0x01 ∷ []) ∷ (0x02 ∷ []) ∷ [] in
    (codes meaning_of Counter [] block ≡ 0 ∷ 0 ∷ 0 ∷ [])
    × (query_reply meaning_of Counter (block ∷ []) (0x63 ∷ 0x6f ∷ 0x75 ∷ 0x6e ∷ 0x74 ∷ []) 0
    ≡ Ok (record { height = 1; value = Some (0 ∷ 0 ∷ 0 ∷ 0 ∷ 0 ∷ 0 ∷ 0 ∷ 3 ∷ []) }))

-- After the block of 0, a number below the count and a transaction of nine bytes are refused. Of 0, 0 in two bytes, and
-- 1, the pool keeps only 1.
abbrev pub CounterChecks : Type 0
CounterChecks =
    let block = (0x00 ∷ []) ∷ [] in
    (check_reply meaning_of Counter (block ∷ []) (0x00 ∷ 0x00 ∷ []) ≡ 2)
    × (check_reply meaning_of Counter (block ∷ []) (replicate 9 0) ≡ 1)
    × (pool_after_block meaning_of (four Counter) (block ∷ []) block ((0x00 ∷ []) ∷ (0x00 ∷ 0x00 ∷ []) ∷ (0x01 ∷ []) ∷ []) ≡ (0x01 ∷ [])
    ∷ [])

-- a transfer of 5 from account 0 to account 1 is accepted once; then account 0 has 995 and nonce 1
abbrev pub PursePays : Type 0
PursePays =
    let transfer = 0x00 ∷ 0x01 ∷ 0x00 ∷ 0x00 ∷ 0x00 ∷ 0x05 ∷ 0x00 ∷ 0x00 ∷ 0x00 ∷ 0x00 ∷ [] in
    let block = transfer ∷ transfer ∷ [] in
    (codes meaning_of Purse [] block ≡ 0 ∷ 2 ∷ [])
    × (query_reply meaning_of Purse (block ∷ []) (0x00 ∷ []) 0
    ≡ Ok (record { height = 1; value = Some (0x00 ∷ 0x00 ∷ 0x03 ∷ 0xe3 ∷ 0x00 ∷ 0x00 ∷ 0x00 ∷ 0x01 ∷ []) }))

-- ---- histories

-- the transaction a=1
abbrev pub tx_a : List ℕ
tx_a = 0x61 ∷ 0x3d ∷ 0x31 ∷ []

-- at replica 0: a transaction is submitted twice and proposed; height 1 is opened again and height 5 too early; nothing is decided
abbrev pub first_entries : List Entry
first_entries =
    record { event = event.Submit tx_a; reply = reply.Submitted (Ok tt) }
    ∷ record { event = event.Submit tx_a; reply = reply.Submitted (Err refusal.Duplicate) }
    ∷ record { event = event.Propose 1; reply = reply.Proposed (Ok a) }
    ∷ record { event = event.Propose 1; reply = reply.Proposed (Err closed.AlreadyOpen) }
    ∷ record { event = event.Propose 5; reply = reply.Proposed (Err closed.TooFar) }
    ∷ record { event = event.Execute; reply = reply.Executed (Err (record {})) }
    ∷ []

-- these entries are a replay
abbrev pub FirstEntriesReplay : Type 0
FirstEntriesReplay = Replay meaning_of (four KvStore) [] 0 first_entries

-- the frame of the first report
abbrev pub first_frame : List ℕ
first_frame = frame_bytes signed_report

-- the frame of a signer that is not in the cluster
abbrev pub strange_frame : List ℕ
strange_frame = frame_bytes (record { statement = statement.Report (record first_report { signer = 200 }); signature = 5 ∷ 6 ∷ [] })

-- a round end of a replica that has nothing to send
abbrev pub quiet_end : Entry
quiet_end = record { event = event.RoundEnd; reply = reply.RoundEnded (Ok (record { mute = false; frames = [] })) }

-- the entry of bytes that are ignored for this cause
abbrev pub ignores : List ℕ → Ignored → Entry
ignores bytes why = record { event = event.Deliver bytes; reply = reply.Delivered (Err why) }

-- at replica 0, whose ring has no key: round 1 opens while no height is open; bytes that are no frame, a stranger's frame and a
-- frame of an unopened height arrive; height 1 is opened within the phase, and then that frame's signature doesn't verify
abbrev pub round_entries : List Entry
round_entries =
    quiet_end ∷ ignores (7 ∷ []) cause.Malformed ∷ ignores strange_frame cause.Signer ∷ ignores first_frame cause.NoRow
    ∷ record { event = event.Propose 1; reply = reply.Proposed (Ok []) } ∷ ignores first_frame cause.BadSignature ∷ []

-- these entries are a replay
abbrev pub RoundEntriesReplay : Type 0
RoundEntriesReplay = Replay meaning_of (four KvStore) [] 0 round_entries

-- what was proposed and opened, and which report was read, is in the log of its height and in no other log
abbrev pub LogOfARound : Type 0
LogOfARound =
    let entries = record { event = event.Propose 1; reply = reply.Proposed (Ok a) } ∷ quiet_end
    ∷ record { event = event.Deliver first_frame; reply = reply.Delivered (Ok tt) } ∷ [] in
    (log_of (four KvStore) 2 1 entries ≡ Proposed a ∷ Round 1 ∷ Read 1 signed_report ∷ [])
    × (log_of (four KvStore) 2 2 entries ≡ Round 1 ∷ [])

-- a lock that was taken is sent on exactly as it was read
abbrev pub LockSentOn : Type 0
LockSentOn = held_locks (to_round_3 ++ Round 4 ∷ []) ≡ record { statement = statement.Lock (a_lock 1 1 a); signature = [] } ∷ []

-- ---- a world of replicas 0, 2 and 3, where replica 1 lies

-- replica 4 doesn't exist, replica 1 is a liar, nothing was sent yet; then a transaction is submitted, and a liar's byte arrives
abbrev pub world_steps : List WorldStep
world_steps = step.Submit 4 tx_a ∷ step.Submit 1 tx_a ∷ step.Pass 0 0 2 ∷ step.Submit 0 tx_a ∷ step.Inject 2 (7 ∷ []) ∷ []

-- the replies to these steps
abbrev pub world_answers : List WorldReply
world_answers =
    answer.Refused refused.NoSuchReplica ∷ answer.Refused refused.Liar ∷ answer.Refused refused.NoSuchFrame
    ∷ answer.Done 0 0 ∷ answer.Done 2 0 ∷ []

-- the world after these steps
abbrev pub world_after : World
world_after = record {
  histories = record { replica = 0; entries = record { event = event.Submit tx_a; reply = reply.Submitted (Ok tt) } ∷ [] }
      ∷ record { replica = 2; entries = ignores (7 ∷ []) cause.Malformed ∷ [] } ∷ record { replica = 3; entries = [] } ∷ [];
  order = 0 ∷ 2 ∷ [];
}

-- these steps, with these replies, are a run that ends in this world
abbrev pub WorldRuns : Type 0
WorldRuns = Runs meaning_of (four KvStore) [] (beginning (0 ∷ 2 ∷ 3 ∷ [])) world_steps world_answers world_after
