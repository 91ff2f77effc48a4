-- What an exchange says of a call's result, from what the call promises of it.
use Rattle.ledger_model.specs.Meanings.{Meanings}
use Rattle.std.proofs.Common.{◌≡◌, ℕ, ◌<◌, ◌≤◌, true, List, length, refl}
use Rattle.std.specs.Prelude.{None, Result, Ok, Err, IfOk, OnOk, OnErr, IsErrOf}
use Rattle.ledger_model.specs.declared.event.Event.TheVariants as event
use Rattle.ledger_model.specs.declared.fault.ApplyFault.{ApplyFault}
use Rattle.ledger_model.specs.declared.fault.ApplyFault.TheVariants as fault
use Rattle.ledger_model.specs.declared.reply.QueryAnswer.{QueryAnswer}
use Rattle.ledger_model.specs.declared.reply.SubmitRefusal.{SubmitRefusal}
use Rattle.ledger_model.specs.Commits.{commits_of, submit_reply}
use Rattle.ledger_model.specs.Replies.{query_reply}
use Rattle.locked_replica.specs.Applying.{AppliesEach, AppliesEvent, IsSound}
use Rattle.locked_replica.specs.States.{StateView}
use Rattle.replica_turns.specs.Clients.{IsReceipt, is_tx_len, submit_events, with_index}
use Rattle.cluster_service.specs.Targets.{AnswersQuery, AnswersSubmit}

pub submit_outcome : (meaning : Meanings) (old new : StateView) (tx : List ℕ) (r : Result (Result ℕ SubmitRefusal) ApplyFault)
    → IfOk r (λ answer. answer ≡ with_index (length old.entries) (submit_reply meaning old.config old.id old.entries tx))
    → IfOk r (λ answer. IsReceipt new.entries tx answer) → OnOk r (AppliesEach meaning old (submit_events tx) new)
    → OnErr r (is_tx_len tx ≡ true) → IsSound meaning new → new.used ≡ old.used → AnswersSubmit meaning tx r
submit_outcome meaning old new tx (Ok answer) answered receipt applied needed sound unsigned = record {
  old = old;
  new = new;
  applied = applied;
  sound = sound;
  answered = answered;
  receipt = receipt;
  unsigned = unsigned;
}
submit_outcome meaning old new tx (Err why) answered receipt applied needed sound unsigned = needed

pub query_outcome : (meaning : Meanings) (old new : StateView) (key : List ℕ) (r : Result QueryAnswer ApplyFault)
    → (length key ≤ 64 → OnOk r (AppliesEvent meaning old (event.Query key 0) new))
    → (length key ≤ 64 → IfOk r (λ answer. Ok answer ≡ query_reply meaning old.config.kind
    (commits_of old.config old.id old.entries) key 0))
    → (64 < length key → IfOk r (λ answer. answer
    ≡ record { height = length (commits_of old.config old.id old.entries); value = None }))
    → (64 < length key → new ≡ old) → (IsErrOf r fault.HistoryFull → length key ≤ 64) → IsSound meaning new → new.used ≡ old.used
    → AnswersQuery meaning key r
query_outcome meaning old new key (Ok answer) applied answered long same full sound unsigned = record {
  old = old;
  new = new;
  applied = applied;
  sound = sound;
  answered = answered;
  long_same = same;
  long = long;
  unsigned = unsigned;
}
query_outcome meaning old new key (Err fault.HistoryFull) applied answered long same full sound unsigned = full refl
query_outcome meaning old new key (Err fault.NoMemory) applied answered long same full sound unsigned = tt
