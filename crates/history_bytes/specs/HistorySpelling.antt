-- Which histories have an encoding that is read back: counts fit their bytes, a reply is of its event's kind, and what a
-- reply contains is spelled. A history may have any number of entries that fits, heights that no ledger has, and
-- addressees that no cluster has. The version is that of the cluster's frames.
use Rattle.std.specs.Prelude.{◌≡◌, ℕ, ◌<◌, ◌≤◌, ◌^◌, List, length, Option, Some, None, Ok, Err}
use Rattle.std.specs.List.{AllByRecursion}
use Rattle.ledger_model.specs.declared.event.Event.{Event}
use Rattle.ledger_model.specs.declared.event.Event.TheVariants as event
use Rattle.ledger_model.specs.declared.history.Entry.{Entry}
use Rattle.ledger_model.specs.declared.history.History.{History}
use Rattle.ledger_model.specs.declared.reply.Addressee.{Addressee}
use Rattle.ledger_model.specs.declared.reply.Addressee.TheVariants as addressee
use Rattle.ledger_model.specs.declared.reply.BlockResult.{BlockResult}
use Rattle.ledger_model.specs.declared.reply.QueryAnswer.{QueryAnswer}
use Rattle.ledger_model.specs.declared.reply.Reply.{Reply}
use Rattle.ledger_model.specs.declared.reply.Reply.TheVariants as reply
use Rattle.ledger_model.specs.declared.reply.RoundEnded.{RoundEnded}
use Rattle.ledger_model.specs.declared.reply.Sent.{Sent}
use Rattle.ledger_model.specs.declared.reply.SubmitRefusal.{SubmitRefusal}
use Rattle.ledger_model.specs.declared.reply.SubmitRefusal.TheVariants as refusal
use Rattle.ledger_model.specs.declared.statement.SignedStatement.{SignedStatement}
use Rattle.ledger_model.specs.declared.version.Version.{Version}
use Rattle.ledger_model.specs.Limits.{max_key_len}
use Rattle.ledger_model.specs.Spelling.{SpellsFrame}
use Rattle.ledger_model.specs.Values.{IsByte, IsValueIn}

-- a number of four bytes
abbrev pub IsWord : ℕ → Type 0
IsWord n = n < 2 ^ 32

-- bytes whose number fits into one byte
pub record IsShort (bytes : List ℕ) : Type 0 where
  pub few : length bytes < 2 ^ 8
  pub each : AllByRecursion IsByte bytes

-- bytes whose number fits into four bytes
pub record IsLong (bytes : List ℕ) : Type 0 where
  pub few : length bytes < 2 ^ 32
  pub each : AllByRecursion IsByte bytes

-- a query's key: at most 64 bytes
pub record IsKey (key : List ℕ) : Type 0 where
  pub few : length key ≤ max_key_len
  pub each : AllByRecursion IsByte key

-- the number of an event
abbrev pub event_number : Event → ℕ
event_number (event.Submit tx) = 1
event_number (event.Propose height) = 2
event_number (event.Deliver bytes) = 3
event_number event.RoundEnd = 4
event_number event.Execute = 5
event_number (event.Query key height) = 6
event_number (event.Retire floor) = 7

-- the number of the events that have such a reply
abbrev pub reply_number : Reply → ℕ
reply_number (reply.Submitted result) = 1
reply_number (reply.Proposed result) = 2
reply_number (reply.Delivered result) = 3
reply_number (reply.RoundEnded result) = 4
reply_number (reply.Executed result) = 5
reply_number (reply.Queried result) = 6
reply_number (reply.Retired result) = 7

-- an event that can be encoded
abbrev pub IsEvent : Event → Type 0
IsEvent (event.Submit tx) = IsLong tx
IsEvent (event.Propose height) = IsWord height
IsEvent (event.Deliver bytes) = IsLong bytes
IsEvent event.RoundEnd = Unit {0}
IsEvent event.Execute = Unit {0}
IsEvent (event.Query key height) = IsWord height × IsKey key
IsEvent (event.Retire floor) = IsWord floor

-- a refusal that can be encoded
abbrev pub IsRefusal : SubmitRefusal → Type 0
IsRefusal (refusal.Rejected code) = IsWord code
IsRefusal _ = Unit {0}

-- an addressee that can be encoded: 255 stands for all
abbrev pub IsAddressee : Addressee → Type 0
IsAddressee addressee.All = Unit {0}
IsAddressee (addressee.One r) = r < 255

-- the bytes encode a frame of this version
abbrev pub IsFrameText : Version → List ℕ → Type 0
IsFrameText version bytes = (s : SignedStatement) × SpellsFrame version bytes s

-- a frame that was sent
pub record IsSentFrame (version : Version) (sent : Sent) : Type 0 where
  pub addressee : IsAddressee sent.addressee
  pub frame : IsFrameText version sent.frame

-- a round end that can be encoded
pub record IsEndedRound (version : Version) (ended : RoundEnded) : Type 0 where
  pub few : length ended.frames < 2 ^ 16
  pub each : AllByRecursion (IsSentFrame version) ended.frames

-- a block's result that can be encoded
pub record IsBlock (block : BlockResult) : Type 0 where
  pub height : IsWord block.height
  pub few : length block.codes < 2 ^ 8
  pub each : AllByRecursion IsWord block.codes
  pub hash_len : length block.hash ≡ 32
  pub hash : AllByRecursion IsByte block.hash

-- an optional value that can be encoded
abbrev pub IsPresent : Option (List ℕ) → Type 0
IsPresent None = Unit {0}
IsPresent (Some value) = IsShort value

-- an answer to a query that can be encoded
pub record IsAnswer (answer : QueryAnswer) : Type 0 where
  pub height : IsWord answer.height
  pub value : IsPresent answer.value

-- a reply that can be encoded in a cluster with frames of this version: a batch has at most 16 or 64 transactions
abbrev pub IsReply : Version → Reply → Type 0
IsReply version (reply.Submitted (Ok _)) = Unit {0}
IsReply version (reply.Submitted (Err r)) = IsRefusal r
IsReply version (reply.Proposed (Ok batch)) = IsValueIn version batch
IsReply version (reply.Proposed (Err _)) = Unit {0}
IsReply version (reply.Delivered result) = Unit {0}
IsReply version (reply.RoundEnded (Ok ended)) = IsEndedRound version ended
IsReply version (reply.RoundEnded (Err _)) = Unit {0}
IsReply version (reply.Executed (Ok block)) = IsBlock block
IsReply version (reply.Executed (Err _)) = Unit {0}
IsReply version (reply.Queried (Ok answer)) = IsAnswer answer
IsReply version (reply.Queried (Err _)) = Unit {0}
IsReply version (reply.Retired (Ok floor)) = IsWord floor
IsReply version (reply.Retired (Err _)) = Unit {0}

-- an entry that can be encoded: the reply is of its event's kind
pub record IsEntry (version : Version) (e : Entry) : Type 0 where
  pub event : IsEvent e.event
  pub reply : IsReply version e.reply
  pub kind : reply_number e.reply ≡ event_number e.event

-- a history that can be encoded
pub record IsHistory (version : Version) (h : History) : Type 0 where
  pub replica : IsByte h.replica
  pub few : length h.entries < 2 ^ 32
  pub each : AllByRecursion (IsEntry version) h.entries
