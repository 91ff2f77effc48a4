-- What clients ask of a running replica.
use Rattle.std.specs.Prelude.{◌≡◌, ℕ, ◌==◌, nat_le, Bool, true, not, ◌&&◌, List, [], ◌∷◌, length, slice_get, Option, Some, None}
use Rattle.std.specs.Prelude.{Result, Ok, Err, IfOk, if◌then◌else◌}
use Rattle.ledger_model.specs.declared.event.Event.{Event}
use Rattle.ledger_model.specs.declared.event.Event.TheVariants as event
use Rattle.ledger_model.specs.declared.history.Entry.{Entry}
use Rattle.ledger_model.specs.declared.reply.Reply.{Reply}
use Rattle.ledger_model.specs.declared.reply.Reply.TheVariants as reply
use Rattle.ledger_model.specs.declared.reply.QueryAnswer.{QueryAnswer}
use Rattle.ledger_model.specs.declared.reply.NotHeld.{NotHeld}
use Rattle.ledger_model.specs.declared.reply.SubmitRefusal.{SubmitRefusal}
use Rattle.ledger_model.specs.Audits.{is_taken}
use Rattle.ledger_model.specs.Limits.{max_tx_len}

-- the number of bytes is one that a transaction may have
abbrev pub is_tx_len : List ℕ → Bool
is_tx_len tx = not (length tx == 0) && nat_le (length tx) max_tx_len

-- the events of a client's transaction; none if no pool takes this number of bytes
abbrev pub submit_events : List ℕ → List Event
submit_events tx = if is_tx_len tx then event.Submit tx ∷ [] else []

-- the pool's answer to a transaction; if the pool took it, with the index of the transaction's entry in the history
abbrev pub with_index : ℕ → Result (Unit {0}) SubmitRefusal → Result ℕ SubmitRefusal
with_index index (Ok _) = Ok index
with_index index (Err refusal) = Err refusal

-- if the answer is an index, the entry with that index took the transaction into the pool: the receipt holds
abbrev pub IsReceipt : List Entry → List ℕ → Result ℕ SubmitRefusal → Type 0
IsReceipt entries tx answer = IfOk answer (λ index. is_taken tx (slice_get entries index) ≡ true)

-- the answer to a query in the reply, if it is a reply to one
abbrev pub query_reply_in : Reply → Option (Result QueryAnswer NotHeld)
query_reply_in (reply.Queried answer) = Some answer
query_reply_in _ = None

-- the answer to a query in the entry, if there is an entry and it is a query
abbrev pub query_reply_at : Option Entry → Option (Result QueryAnswer NotHeld)
query_reply_at None = None
query_reply_at (Some e) = query_reply_in e.reply

-- the entry is a query with an answer
abbrev pub IsAnsweredQuery : Option Entry → Type 0
IsAnsweredQuery e = (answer : QueryAnswer) × (query_reply_at e ≡ Some (Ok answer))
