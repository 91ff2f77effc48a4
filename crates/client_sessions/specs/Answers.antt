-- The bodies of the replies, by the answer.
use Rattle.std.specs.Prelude.{ℕ, ◌≤◌, List, ◌∷◌, ◌++◌, length, IfSome}
use Rattle.std.specs.Int.{w32, to_be_bytes}
use Rattle.ledger_model.specs.Values.{value_bytes}
use Rattle.ledger_model.specs.Sessions.{status, receipt, refused, faulty, present, max_value_len}
use Rattle.client_sessions.specs.declared.answer.Answer.{Answer}
use Rattle.client_sessions.specs.declared.answer.Answer.TheVariants as answer

-- the body of the reply that encodes the answer
abbrev pub reply_body : Answer → List ℕ
reply_body answer.Switched = status 0
reply_body (answer.Receipt replica index) = 0 ∷ receipt replica index
reply_body (answer.Value found) = 0 ∷ to_be_bytes w32 found.height ++ present found.value
reply_body answer.TooLong = status 6
reply_body (answer.Height height) = 0 ∷ to_be_bytes w32 height
reply_body (answer.Block height batch) = 0 ∷ to_be_bytes w32 height ++ value_bytes batch
reply_body answer.Malformed = status 1
reply_body answer.Behind = status 2
reply_body answer.NotHeld = status 3
reply_body answer.NoReplica = status 5
reply_body (answer.Refused refusal) = refused refusal
reply_body (answer.Faulted fault) = faulty fault

-- if the answer contains a value, that value fits into a reply
abbrev pub FitsReply : Answer → Type 0
FitsReply (answer.Value found) = IfSome found.value (λ v. length v ≤ max_value_len)
FitsReply _ = Unit {0}
