-- The one encoding of a history.
use Rattle.std.specs.Prelude.{ℕ, ◌%◌, Bool, List, [], ◌∷◌, ◌++◌, length, Option, Some, None, Ok, Err, if◌then◌else◌}
use Rattle.std.specs.List.{flat_map}
use Rattle.std.specs.Int.{w16, w32, to_be_bytes}
use Rattle.ledger_model.specs.declared.event.Event.{Event}
use Rattle.ledger_model.specs.declared.event.Event.TheVariants as event
use Rattle.ledger_model.specs.declared.history.Entry.{Entry}
use Rattle.ledger_model.specs.declared.history.History.{History}
use Rattle.ledger_model.specs.declared.reply.Addressee.{Addressee}
use Rattle.ledger_model.specs.declared.reply.BlockResult.{BlockResult}
use Rattle.ledger_model.specs.declared.reply.QueryAnswer.{QueryAnswer}
use Rattle.ledger_model.specs.declared.reply.RoundEnded.{RoundEnded}
use Rattle.ledger_model.specs.declared.reply.Addressee.TheVariants as addressee
use Rattle.ledger_model.specs.declared.reply.Reply.{Reply}
use Rattle.ledger_model.specs.declared.reply.Reply.TheVariants as reply
use Rattle.ledger_model.specs.declared.reply.Sent.{Sent}
use Rattle.ledger_model.specs.declared.reply.SubmitRefusal.{SubmitRefusal}
use Rattle.ledger_model.specs.declared.reply.SubmitRefusal.TheVariants as refusal
use Rattle.ledger_model.specs.Values.{value_bytes}
use Rattle.ledger_model.specs.Causes.{submit_refusal_number, propose_refusal_number, retire_refusal_number, cause_number}

-- a count in one, two or four bytes: its low bytes, if it doesn't fit
abbrev pub count_in_1 : ℕ → List ℕ
count_in_1 n = n % 256 ∷ []

abbrev pub count_in_2 : ℕ → List ℕ
count_in_2 n = to_be_bytes w16 (n % 65536)

abbrev pub count_in_4 : ℕ → List ℕ
count_in_4 n = to_be_bytes w32 (n % 4294967296)

-- an event: its number, and its data
abbrev pub event_bytes : Event → List ℕ
event_bytes (event.Submit tx) = 1 ∷ count_in_4 (length tx) ++ tx
event_bytes (event.Propose height) = 2 ∷ to_be_bytes w32 height
event_bytes (event.Deliver bytes) = 3 ∷ count_in_4 (length bytes) ++ bytes
event_bytes event.RoundEnd = 4 ∷ []
event_bytes event.Execute = 5 ∷ []
event_bytes (event.Query key height) = 6 ∷ to_be_bytes w32 height ++ count_in_1 (length key) ++ key
event_bytes (event.Retire floor) = 7 ∷ to_be_bytes w32 floor

-- the application's code, if the application rejected the transaction
abbrev pub code_bytes : SubmitRefusal → List ℕ
code_bytes (refusal.Rejected code) = to_be_bytes w32 code
code_bytes _ = []

-- why a transaction was refused: the reason's number, followed by the application's code if it has one
abbrev pub refusal_bytes : SubmitRefusal → List ℕ
refusal_bytes r = submit_refusal_number r ∷ code_bytes r

-- a flag
abbrev pub flag : Bool → ℕ
flag b = if b then 1 else 0

-- the number of a frame's addressee; 255 is all replicas
abbrev pub addressee_number : Addressee → ℕ
addressee_number addressee.All = 255
addressee_number (addressee.One r) = r

-- a frame that was sent; the frame starts with its own length
abbrev pub sent_bytes : Sent → List ℕ
sent_bytes sent = addressee_number sent.addressee ∷ sent.frame

-- an optional value
abbrev pub present_bytes : Option (List ℕ) → List ℕ
present_bytes None = 0 ∷ []
present_bytes (Some value) = 1 ∷ count_in_1 (length value) ++ value

-- a round end that opened a round: whether the replica was mute, the number of frames, and each frame
abbrev pub ended_bytes : RoundEnded → List ℕ
ended_bytes ended = flag ended.mute ∷ count_in_2 (length ended.frames) ++ flat_map sent_bytes ended.frames

-- a block that was run: its height, the number of codes, each code, and the hash
abbrev pub block_bytes : BlockResult → List ℕ
block_bytes block = to_be_bytes w32 block.height ++ count_in_1 (length block.codes) ++ flat_map (to_be_bytes w32) block.codes ++ block.hash

-- the application's answer to a query
abbrev pub answer_bytes : QueryAnswer → List ℕ
answer_bytes answer = to_be_bytes w32 answer.height ++ present_bytes answer.value

-- a reply: the number of its event, then 0 and the result if the event succeeded, or else the refusal
abbrev pub reply_bytes : Reply → List ℕ
reply_bytes (reply.Submitted (Ok _)) = 1 ∷ 0 ∷ []
reply_bytes (reply.Submitted (Err r)) = 1 ∷ refusal_bytes r
reply_bytes (reply.Proposed (Ok batch)) = 2 ∷ 0 ∷ value_bytes batch
reply_bytes (reply.Proposed (Err r)) = 2 ∷ propose_refusal_number r ∷ []
reply_bytes (reply.Delivered (Ok _)) = 3 ∷ 0 ∷ []
reply_bytes (reply.Delivered (Err c)) = 3 ∷ cause_number c ∷ []
reply_bytes (reply.RoundEnded (Ok ended)) = 4 ∷ 0 ∷ ended_bytes ended
reply_bytes (reply.RoundEnded (Err _)) = 4 ∷ 1 ∷ []
reply_bytes (reply.Executed (Ok block)) = 5 ∷ 0 ∷ block_bytes block
reply_bytes (reply.Executed (Err _)) = 5 ∷ 1 ∷ []
reply_bytes (reply.Queried (Ok answer)) = 6 ∷ 0 ∷ answer_bytes answer
reply_bytes (reply.Queried (Err _)) = 6 ∷ 1 ∷ []
reply_bytes (reply.Retired (Ok floor)) = 7 ∷ 0 ∷ to_be_bytes w32 floor
reply_bytes (reply.Retired (Err r)) = 7 ∷ retire_refusal_number r ∷ []

-- an entry
abbrev pub entry_bytes : Entry → List ℕ
entry_bytes e = event_bytes e.event ++ reply_bytes e.reply

-- a history: its replica, the number of entries, and each entry
unfoldable pub history_bytes : History → List ℕ
history_bytes h = h.replica ∷ count_in_4 (length h.entries) ++ flat_map entry_bytes h.entries
