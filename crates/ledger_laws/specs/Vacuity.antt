-- The laws are not vacuous. They exclude something: there are histories that no ledger explains. Their premises can be met:
-- there are runs in which nothing is forged. The examples have a cluster of four, of which the replicas 0, 1 and 2 are correct.
use Rattle.ledger_model.specs.Meanings.{Meanings}
use Rattle.ledger_model.specs.Kinds.{meaning_of}
use Rattle.std.specs.Prelude.{◌≡◌, ℕ, ◌+◌, ◌<◌, true, false, List, [], ◌∷◌, ◌++◌, length, replicate, Result, Some, Ok, Err, slice_get}
use Rattle.ledger_model.specs.declared.config.Config.{Config}
use Rattle.ledger_model.specs.declared.version.Version.TheVariants.{One}
use Rattle.ledger_model.specs.declared.config.AppKind.TheVariants.{KvStore}
use Rattle.ledger_model.specs.declared.statement.SignedStatement.{SignedStatement}
use Rattle.ledger_model.specs.declared.statement.Statement.TheVariants as statement
use Rattle.ledger_model.specs.declared.history.Entry.{Entry}
use Rattle.ledger_model.specs.declared.history.History.{History}
use Rattle.ledger_model.specs.declared.event.Event.TheVariants as event
use Rattle.ledger_model.specs.declared.reply.Reply.TheVariants as reply
use Rattle.ledger_model.specs.declared.reply.Addressee.TheVariants as addressee
use Rattle.ledger_model.specs.declared.reply.BlockResult.{BlockResult}
use Rattle.ledger_model.specs.declared.reply.QueryAnswer.{QueryAnswer}
use Rattle.ledger_model.specs.declared.reply.NotHeld.{NotHeld}
use Rattle.ledger_model.specs.declared.reply.SubmitRefusal.TheVariants as refusal
use Rattle.ledger_model.specs.declared.reply.ProposeRefusal.TheVariants as closed
use Rattle.ledger_model.specs.declared.reply.RetireRefusal.TheVariants as kept
use Rattle.ledger_model.specs.declared.world.WorldStep.{WorldStep}
use Rattle.ledger_model.specs.declared.world.WorldStep.TheVariants as step
use Rattle.ledger_model.specs.declared.world.WorldReply.{WorldReply}
use Rattle.ledger_model.specs.Values.{Value}
use Rattle.ledger_model.specs.Spelling.{frame_bytes}
use Rattle.ledger_model.specs.Logs.{log_of}
use Rattle.ledger_model.specs.Commits.{commits_of, propose_reply, retire_reply}
use Rattle.ledger_model.specs.Replies.{block_reply, query_reply, check_reply}
use Rattle.ledger_model.specs.Groups.{history_of, AllProposed}
use Rattle.ledger_model.specs.Notes.{Has, is_open}
use Rattle.ledger_model.specs.Reading.{reading}
use Rattle.ledger_model.specs.Rules.{Ring}
use Rattle.ledger_model.specs.Worlds.{World, beginning, entries_in, Runs, world_at, IsUnforged, NoForgery, Begins, IsLedger, Refines}
use Rattle.ledger_model.specs.Timelines.{AreReplicas}
use Rattle.ledger_laws.specs.Examples.{four, a, b, by_signer, quiet_end}

-- no list of batches is the ledger of these histories
abbrev pub NoLedger : Meanings → Config → List History → Type 0
NoLedger meaning config histories = (ledger : List Value) → IsLedger meaning config histories ledger → ⊥

-- if the histories of a world after all of its entries have no ledger, the world is not the run of a ledger
abbrev pub NoRunWithoutLedger : Type 0
NoRunWithoutLedger =
    (meaning : Meanings) (config : Config) (w : World) → world_at w (length w.order) ≡ w → NoLedger meaning config w.histories
    → Refines meaning config w → ⊥

-- if some entry of a world rewrites its ledger, the world is not the run of a ledger
abbrev pub NoRunThatRewrites : Type 0
NoRunThatRewrites =
    (meaning : Meanings) (config : Config) (w : World) (n : ℕ) (ledger later : List Value)
    → n < length w.order
    → IsLedger meaning config (world_at w n).histories ledger → IsLedger meaning config (world_at w (n + 1)).histories later
    → (Begins ledger later → ⊥)
    → Refines meaning config w → ⊥

-- histories have at most one ledger, which is what some correct replica committed
abbrev pub LedgerIsUnique : Type 0
LedgerIsUnique =
    (meaning : Meanings) (config : Config) (histories : List History) (ledger other : List Value)
    → IsLedger meaning config histories ledger → IsLedger meaning config histories other → ledger ≡ other

-- ---- a history that commits one batch

-- the lock of replica 1 on the value, in phase 1 of height 1
abbrev pub lock_on : Value → SignedStatement
lock_on v = record {
  statement = statement.Lock (record {
    version = One;
    height = 1;
    phase = 1;
    signer = 1;
    value = v;
    proof =
        by_signer 0 ∷ by_signer 1 ∷ by_signer 2 ∷ [];
  });
  signature = [];
}

-- the signer's acknowledgement of that lock
abbrev pub ack_on : Value → ℕ → SignedStatement
ack_on v signer = record {
  statement = statement.Ack (record { version = One; height = 1; phase = 1; signer = signer; value = v });
  signature = [];
}

-- the replica opens height 1 with the value
abbrev pub proposes : Value → Entry
proposes v = record { event = event.Propose 1; reply = reply.Proposed (Ok v) }

-- a round ends, and a frame of the statement goes to all
abbrev pub send_entry : SignedStatement → Entry
send_entry s = record {
  event = event.RoundEnd;
  reply = reply.RoundEnded (Ok (record { mute = false; frames = record { addressee = addressee.All; frame = frame_bytes s } ∷ [] }));
}

-- a frame of the statement arrives and is accepted
abbrev pub accept_entry : SignedStatement → Entry
accept_entry s = record { event = event.Deliver (frame_bytes s); reply = reply.Delivered (Ok tt) }

-- the next block is run with this result
abbrev pub runs_block : BlockResult → Entry
runs_block result = record { event = event.Execute; reply = reply.Executed (Ok result) }

-- the application answers this to a query for the key at its last height
abbrev pub answers_query : List ℕ → Result QueryAnswer NotHeld → Entry
answers_query key given = record { event = event.Query key 0; reply = reply.Queried given }

-- the application refuses a transaction with this code
abbrev pub rejects : List ℕ → ℕ → Entry
rejects tx code = record { event = event.Submit tx; reply = reply.Submitted (Err (refusal.Rejected code)) }

-- A replica proposes the first value, makes a lock on the second, reads three acknowledgements of that lock, decides it
-- as round 4 opens, and runs the block.
abbrev pub commits : Value → Value → BlockResult → List Entry
commits own v result =
    proposes own ∷ quiet_end ∷ send_entry (lock_on v) ∷ quiet_end
    ∷ accept_entry (ack_on v 0) ∷ accept_entry (ack_on v 2) ∷ accept_entry (ack_on v 3) ∷ quiet_end
    ∷ runs_block result ∷ []

-- the result of the application run alone for the first block
abbrev pub first_result : Value → BlockResult
first_result v = block_reply meaning_of KvStore [] v

-- the histories of the correct replicas 0, 1 and 2
abbrev pub three : List Entry → List Entry → List Entry → List History
three of_0 of_1 of_2 = record { replica = 0; entries = of_0 } ∷ record { replica = 1; entries = of_1 } ∷ record {
  replica = 2;
  entries =
      of_2;
} ∷ []

-- ---- a fork

-- if two correct replicas committed different batches at one height, their histories have no ledger
abbrev pub ForkHasNoLedger : Type 0
ForkHasNoLedger =
    (meaning : Meanings) (config : Config) (histories : List History) (r q i : ℕ) (m n : History) (v w : Value)
    → history_of histories r ≡ Some m → history_of histories q ≡ Some n
    → slice_get (commits_of config r m.entries) i ≡ Some v → slice_get (commits_of config q n.entries) i ≡ Some w → (v ≡ w → ⊥)
    → NoLedger meaning config histories

-- replica 1 commits [a=1] and replica 2 commits [b=1] at height 1, each with the application's own result
abbrev pub forked : List History
forked = three [] (commits a a (first_result a)) (commits b b (first_result b))

-- the world of these histories: the 9 entries of replica 1 were added before the 9 of replica 2
abbrev pub forked_world : World
forked_world = record { histories = forked; order = replicate 9 1 ++ replicate 9 2 }

-- The two committed different batches, so the histories have no ledger and their world is not the run of one. No run in
-- which nothing that was accepted was forged ends in that world.
abbrev pub ForkExample : Type 0
ForkExample =
    (commits_of (four KvStore) 1 (commits a a (first_result a)) ≡ a ∷ [])
    × (commits_of (four KvStore) 2 (commits b b (first_result b)) ≡ b ∷ [])
    × NoLedger meaning_of (four KvStore) forked
    × (Refines meaning_of (four KvStore) forked_world → ⊥)
    × ((ring : Ring) (steps : List WorldStep) (answers : List WorldReply)
    → Runs meaning_of (four KvStore) ring (beginning (0 ∷ 1 ∷ 2 ∷ [])) steps answers forked_world
    → NoForgery (four KvStore) ring forked_world → ⊥)

-- ---- a wrong reply

-- Replicas 1 and 2 commit [a=1], but replica 1 returns another result than the application run alone: another code, hash or height.
abbrev pub WrongBlockHasNoLedger : Type 0
WrongBlockHasNoLedger =
    (result : BlockResult) → (result ≡ first_result a → ⊥)
    → NoLedger meaning_of (four KvStore) (three [] (commits a a result) (commits a a (first_result a)))

-- Replicas 1 and 2 commit [a=1], but replica 1 answers a query otherwise than the application run alone would then.
abbrev pub WrongQueryHasNoLedger : Type 0
WrongQueryHasNoLedger =
    (key : List ℕ) (given : Result QueryAnswer NotHeld) → (given ≡ query_reply meaning_of KvStore (a ∷ []) key 0 → ⊥)
    → NoLedger meaning_of (four KvStore) (three [] (commits a a (first_result a) ++ answers_query key given ∷ [])
    (commits a a (first_result a)))

-- replica 2 refuses a transaction with another code than the application run alone
abbrev pub WrongCodeHasNoLedger : Type 0
WrongCodeHasNoLedger =
    (meaning : Meanings) (config : Config) (tx : List ℕ) (code : ℕ) → (code ≡ check_reply meaning config.kind [] tx → ⊥)
    → NoLedger meaning config (three [] [] (rejects tx code ∷ []))

-- a transaction joins the pool
abbrev pub takes : List ℕ → Entry
takes tx = record { event = event.Submit tx; reply = reply.Submitted (Ok tt) }

-- replica 2 takes a transaction that the application run alone refuses
abbrev pub TakenRefusalHasNoLedger : Type 0
TakenRefusalHasNoLedger =
    (meaning : Meanings) (config : Config) (tx : List ℕ) → (check_reply meaning config.kind [] tx ≡ 0 → ⊥)
    → NoLedger meaning config (three [] [] (takes tx ∷ []))

-- ---- another value than the common proposal

-- a committed batch that differs from the one that all correct replicas proposed for its height excludes every ledger
abbrev pub UnproposedBatchHasNoLedger : Type 0
UnproposedBatchHasNoLedger =
    (meaning : Meanings) (config : Config) (histories : List History) (r h : ℕ) (m : History) (v w : Value)
    → history_of histories r ≡ Some m → slice_get (commits_of config r m.entries) h ≡ Some w
    → AllProposed config histories (h + 1) v → (w ≡ v → ⊥)
    → NoLedger meaning config histories

-- all three propose [a=1], and replica 1 commits [b=1]
abbrev pub UnproposedBatchExample : Type 0
UnproposedBatchExample =
    (commits_of (four KvStore) 1 (commits a b (first_result b)) ≡ b ∷ [])
    × NoLedger meaning_of (four KvStore) (three (proposes a ∷ []) (commits a b (first_result b)) (proposes a ∷ []))

-- ---- similar histories without a fault

-- Replicas 1 and 2 propose and commit [a=1], with the application's own result, and replica 1 answers a query as the
-- application does. Then their ledger is [a=1].
abbrev pub AgreementHasLedger : Type 0
AgreementHasLedger =
    (key : List ℕ)
    → IsLedger meaning_of (four KvStore)
    (three [] (commits a a (first_result a) ++ answers_query key (query_reply meaning_of KvStore (a ∷ []) key 0) ∷ [])
    (commits a a (first_result a)))
    (a ∷ [])

-- ---- a floor

-- the replica gives up the heights below this one
abbrev pub retires_below : ℕ → Entry
retires_below floor = record { event = event.Retire floor; reply = reply.Retired (Ok floor) }

-- After it committed [a=1] at height 1, replica 1 may raise its floor to 2 and to nothing else. That closes the height,
-- which it then doesn't open again.
abbrev pub FloorExample : Type 0
FloorExample =
    let before = commits a a (first_result a) in
    let after = commits a a (first_result a) ++ retires_below 2 ∷ [] in
    (retire_reply (four KvStore) 1 before 1 ≡ Err kept.NotAbove)
    × (retire_reply (four KvStore) 1 before 2 ≡ Ok 2)
    × (retire_reply (four KvStore) 1 before 3 ≡ Err kept.NotCommitted)
    × (is_open (log_of (four KvStore) 1 1 before) ≡ true)
    × (is_open (log_of (four KvStore) 1 1 after) ≡ false)
    × (propose_reply meaning_of (four KvStore) 1 after 1 ≡ Err closed.Retired)

-- ---- what liars can forge

-- no bytes that a step injects and a correct replica accepts are forged
abbrev pub NoInjectedForgery : Config → Ring → List WorldStep → World → Type 0
NoInjectedForgery config ring steps w =
    (n r : ℕ) (bytes : List ℕ) (u : Unit {0}) (s : SignedStatement)
    → Has steps (step.Inject r bytes)
    → slice_get w.order n ≡ Some r
    → slice_get (entries_in w r) (length (entries_in (world_at w n) r))
    ≡ Some (record { event = event.Deliver bytes; reply = reply.Delivered (Ok u) })
    → reading bytes ≡ Some s
    → IsUnforged config ring (world_at w n).histories s

-- What correct replicas send is never forged: if nothing forged was accepted among the injected bytes, nothing forged
-- was accepted at all.
abbrev pub OnlyInjectionsForge : Type 0
OnlyInjectionsForge =
    (meaning : Meanings) (config : Config) (ring : Ring) (correct : List ℕ) (steps : List WorldStep) (answers : List WorldReply) (w : World)
    → Runs meaning config ring (beginning correct) steps answers w → NoInjectedForgery config ring steps w
    → NoForgery config ring w

-- no step injects bytes
abbrev pub NoInjection : List WorldStep → Type 0
NoInjection steps = (r : ℕ) (bytes : List ℕ) → Has steps (step.Inject r bytes) → ⊥

-- if no step injects bytes, nothing that was accepted was forged, whatever the signatures are
abbrev pub SilentRunsForgeNothing : Type 0
SilentRunsForgeNothing =
    (meaning : Meanings) (config : Config) (ring : Ring) (correct : List ℕ) (steps : List WorldStep) (answers : List WorldReply) (w : World)
    → Runs meaning config ring (beginning correct) steps answers w → NoInjection steps
    → NoForgery config ring w

-- a run in which no step injects bytes is a run of one sequential ledger
abbrev pub SilentRunsRefine : Type 0
SilentRunsRefine =
    (meaning : Meanings) (config : Config) (ring : Ring) (correct : List ℕ) (steps : List WorldStep) (answers : List WorldReply) (w : World)
    → AreReplicas config correct → Runs meaning config ring (beginning correct) steps answers w → NoInjection steps
    → Refines meaning config w
