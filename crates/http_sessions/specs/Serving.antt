-- A connection: the request that was read, the exchanges that it made, and the reply that was written.
use Rattle.std.specs.Prelude.{◌≡◌, ℕ, ◌+◌, List, [], Option, Result, Ok, Err}
use Rattle.std.specs.Io.KnownBytes.{Appends}
use Rattle.byte_streams.specs.Writing.{AppendsSome}
use Rattle.http_messages.specs.Limits.{max_head_len}
use Rattle.http_messages.specs.declared.fault.RequestFault.{RequestFault}
use Rattle.http_messages.specs.declared.fault.RequestFault.TheVariants as request_fault
use Rattle.http_messages.specs.declared.request.Request.{Request}
use Rattle.http_messages.specs.Answers.{Fault}
use Rattle.http_messages.specs.Replies.{http_reply_bytes}
use Rattle.http_sessions.specs.declared.request_end.RequestEnd.{RequestEnd}
use Rattle.http_sessions.specs.declared.request_end.RequestEnd.TheVariants.{Answered, OutOfMemory, Silent}
use Rattle.http_sessions.specs.declared.request_end.ConnectionFault.{ConnectionFault}
use Rattle.http_sessions.specs.declared.request_end.ConnectionFault.TheVariants as fault
use Rattle.http_sessions.specs.Exchanges.{HttpExchange}
use Rattle.http_sessions.specs.Answering.{AnswersRequest, Loses, RepliesByExchanges}
use Rattle.http_sessions.specs.Hearing.{Hears, HearsNone, HearsPart}

-- the most bytes that are read: one more than a head has
abbrev pub most_read : ℕ
most_read = max_head_len + 1

-- the reply to what was asked: that of its answer, or that memory ran out
abbrev pub IsHttpReply : {T : Type 0} → RequestEnd → (T → HttpExchange → T → Type 0) → ℕ → T → T → Result Request RequestFault → List ℕ → Type 0
IsHttpReply Answered makes count before after asked reply = RepliesByExchanges makes before after (AnswersRequest count asked) reply
IsHttpReply OutOfMemory makes count before after asked reply =
    Loses makes before after (AnswersRequest count asked) × (reply ≡ http_reply_bytes (Fault request_fault.NoMemory))
IsHttpReply Silent makes count before after asked reply = ⊥

-- exchanges were made for what was asked, and `Sent` holds of the reply
pub record RespondsTo {T : Type 0} (makes : T → HttpExchange → T → Type 0) (count : ℕ) (before after : T)
    (asked : Result Request RequestFault) (end : RequestEnd) (Sent : List ℕ → Type 0) : Type 0 where
  pub reply : List ℕ
  pub is_reply : IsHttpReply end makes count before after asked reply
  pub sent : Sent reply

-- a request was read, exchanges were made for it, and `Sent` holds of its reply
pub record ServesRequest {T : Type 0} (makes : T → HttpExchange → T → Type 0) (count : ℕ) (before after : T) (unread left : Option (List ℕ))
    (end : RequestEnd) (Sent : List ℕ → Type 0) : Type 0 where
  pub asked : Result Request RequestFault
  pub hears : Hears most_read unread left asked
  pub responds : RespondsTo makes count before after asked end Sent

-- nothing was asked and nothing written
pub record DoesNothing {T : Type 0} (before after : T) (had has : Option (List ℕ)) : Type 0 where
  pub unasked : after ≡ before
  pub unwritten : Appends had has []

-- how the connection ended
abbrev pub EndsConnection : {T : Type 0} → (T → HttpExchange → T → Type 0) → ℕ → T → T → Option (List ℕ) → Option (List ℕ) → Option (List ℕ)
    → Option (List ℕ) → RequestEnd → Type 0
EndsConnection makes count before after unread left had has Answered = ServesRequest makes count before after unread left Answered (Appends had has)
EndsConnection makes count before after unread left had has OutOfMemory = ServesRequest makes count before after unread left OutOfMemory (Appends had has)
EndsConnection makes count before after unread left had has Silent = HearsNone unread left × DoesNothing before after had has

-- what a failed stream left: a part of a request, or a prefix of the reply
abbrev pub Stops : {T : Type 0} → (T → HttpExchange → T → Type 0) → ℕ → T → T → Option (List ℕ) → Option (List ℕ) → Option (List ℕ)
    → Option (List ℕ) → ConnectionFault → Type 0
Stops makes count before after unread left had has (fault.Read error) = HearsPart most_read unread left × DoesNothing before after had has
Stops makes count before after unread left had has (fault.Write error) =
    (end : RequestEnd) × ServesRequest makes count before after unread left end (AppendsSome had has)

-- the number of reads that failed in a call with this result
abbrev pub connection_read_failures : {A : Type 0} → Result A ConnectionFault → ℕ
connection_read_failures (Ok x) = 0
connection_read_failures (Err (fault.Read error)) = 1
connection_read_failures (Err (fault.Write error)) = 0

-- the number of writes that failed in a call with this result
abbrev pub connection_write_failures : {A : Type 0} → Result A ConnectionFault → ℕ
connection_write_failures (Ok x) = 0
connection_write_failures (Err (fault.Read error)) = 0
connection_write_failures (Err (fault.Write error)) = 1
