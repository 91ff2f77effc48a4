-- What an exchange of a session says: some replica with a lawful history answers so. No clause says which replica it is.
use Rattle.ledger_model.specs.Meanings.{Meanings}
use Rattle.std.specs.Prelude.{◌≡◌, ℕ, ◌<◌, ◌≤◌, ⊤, true, List, length, Option, None, Result, Ok, Err}
use Rattle.ledger_model.specs.declared.event.Event.TheVariants as event
use Rattle.ledger_model.specs.declared.fault.ApplyFault.{ApplyFault}
use Rattle.ledger_model.specs.declared.fault.ApplyFault.TheVariants as fault
use Rattle.ledger_model.specs.declared.reply.QueryAnswer.{QueryAnswer}
use Rattle.ledger_model.specs.declared.reply.SubmitRefusal.{SubmitRefusal}
use Rattle.ledger_model.specs.Commits.{commits_of, submit_reply}
use Rattle.ledger_model.specs.Lawful.{Replay}
use Rattle.ledger_model.specs.Replies.{query_reply}
use Rattle.ledger_model.specs.Sessions.{Exchange, Submits, Queries, Heights, Blocks}
use Rattle.ledger_model.specs.Values.{Value}
use Rattle.commit_board.specs.Seats.{ReadAtOnce}
use Rattle.replica_core.specs.Facts.{block_at}
use Rattle.locked_replica.specs.Applying.{AppliesEach, AppliesEvent, IsSound}
use Rattle.locked_replica.specs.States.{StateView}
use Rattle.replica_turns.specs.Clients.{IsReceipt, is_tx_len, submit_events, with_index}

-- a replica took the transaction: it applied that event and no other, it used no signature, and the answer is its pool's, by
-- the history before; if the pool took the transaction, the answer is the index of its entry, which is the length of the history before
pub record IsSubmitted (meaning : Meanings) (tx : List ℕ) (answer : Result ℕ SubmitRefusal) : Type 0 where
  pub old : StateView
  pub new : StateView
  pub applied : AppliesEach meaning old (submit_events tx) new
  pub sound : IsSound meaning new
  pub answered : answer ≡ with_index (length old.entries) (submit_reply meaning old.config old.id old.entries tx)
  pub receipt : IsReceipt new.entries tx answer
  pub unsigned : new.used ≡ old.used

-- a replica took the query: it applied that event and no other, it used no signature, and the answer is its application's, as
-- of the last block; a key that is too long has no value, and is no event
pub record IsQueried (meaning : Meanings) (key : List ℕ) (answer : QueryAnswer) : Type 0 where
  pub old : StateView
  pub new : StateView
  pub applied : length key ≤ 64 → AppliesEvent meaning old (event.Query key 0) new
  pub sound : IsSound meaning new
  pub answered : length key ≤ 64 → Ok answer ≡ query_reply meaning old.config.kind (commits_of old.config old.id old.entries) key 0
  pub long_same : 64 < length key → new ≡ old
  pub long : 64 < length key → answer ≡ record { height = length (commits_of old.config old.id old.entries); value = None }
  pub unsigned : new.used ≡ old.used

-- a replica with a lawful history had committed this batch at the height, or none
pub record IsCommitted (meaning : Meanings) (height : ℕ) (answer : Option Value) : Type 0 where
  pub state : StateView
  pub replay : Replay meaning state.config state.ring state.id state.entries
  pub answered : answer ≡ block_at (commits_of state.config state.id state.entries) height

-- what an answer to a transaction says; only a transaction that a pool may take is refused by a fault
abbrev pub AnswersSubmit : Meanings → List ℕ → Result (Result ℕ SubmitRefusal) ApplyFault → Type 0
AnswersSubmit meaning tx (Ok answer) = IsSubmitted meaning tx answer
AnswersSubmit meaning tx (Err why) = is_tx_len tx ≡ true

-- what an answer to a query says; a history is too full for a key that is short enough alone
abbrev pub AnswersQuery : Meanings → List ℕ → Result QueryAnswer ApplyFault → Type 0
AnswersQuery meaning key (Ok answer) = IsQueried meaning key answer
AnswersQuery meaning key (Err fault.HistoryFull) = length key ≤ 64
AnswersQuery meaning key (Err fault.NoMemory) = ⊤

-- what an answer about a block says; a history is never too full for it
abbrev pub AnswersBlock : Meanings → ℕ → Result (Option Value) ApplyFault → Type 0
AnswersBlock meaning height (Ok answer) = IsCommitted meaning height answer
AnswersBlock meaning height (Err fault.HistoryFull) = ⊥
AnswersBlock meaning height (Err fault.NoMemory) = ⊤

-- the exchange is with the replicas of a running cluster; the session's seat of the board had found some heights before, and then
-- these: one more where it was asked for the height, which was on the board at one step
abbrev pub IsExchange : Meanings → List (ℕ × ℕ) → Exchange → List (ℕ × ℕ) → Type 0
IsExchange meaning before (Submits r tx answer) after = AnswersSubmit meaning tx answer × (after ≡ before)
IsExchange meaning before (Queries r key answer) after = AnswersQuery meaning key answer × (after ≡ before)
IsExchange meaning before (Heights r height) after = ReadAtOnce before r height after
IsExchange meaning before (Blocks r height answer) after = AnswersBlock meaning height answer × (after ≡ before)
