-- A session over streams: the requests that were served, and how the session ended.
use Rattle.std.specs.Prelude.{◌≡◌, ℕ, ◌-◌, ◌^◌, ◌≤◌, List, [], ◌++◌, length, Option}
use Rattle.std.specs.List.{AllByRecursion, FoldsTo, flat_map}
use Rattle.std.specs.Io.KnownBytes.{Appends, Consumes, IsAtEnd}
use Rattle.ledger_model.specs.Sessions.{Exchange, Session, Session_of, framed, request_of}
use Rattle.client_sessions.specs.declared.session_end.SessionEnd.{SessionEnd}
use Rattle.client_sessions.specs.declared.session_end.SessionFault.{SessionFault}
use Rattle.client_sessions.specs.declared.session_end.SessionFault.TheVariants as fault
use Rattle.client_sessions.specs.Answering.{AnswersOneRequest}
use Rattle.client_sessions.specs.Heights.{Rises}
use Rattle.client_sessions.specs.Streams.{IsBody, IsPartialRequest, EndsInput}
use Rattle.byte_streams.specs.Writing.{AppendsSome}

-- the request with this body was served, and `Sent` holds of the bytes of its reply
pub record RepliesToRequest {T : Type 0} (asks : T → Exchange → T → Type 0) (count : ℕ) (before after : T) (old : Session) (body : List ℕ)
    (new : Session) (Sent : List ℕ → Type 0) : Type 0 where
  pub reply : List ℕ
  pub answers : AnswersOneRequest asks count before after old (request_of body) reply new
  pub short : IsBody reply
  pub sent : Sent (framed reply)

-- the requests with these bodies were served with these replies, by exchanges with the `count` targets
pub record Served {T : Type 0} (asks : T → Exchange → T → Type 0) (count : ℕ) (before after : T) (old : Session)
    (bodies replies : List (List ℕ)) (new : Session) : Type 0 where
  pub exchanges : List Exchange
  pub asked : FoldsTo asks before exchanges after
  pub session : Session_of count old bodies exchanges (flat_map framed replies) new
  pub rises : Rises old.greatest bodies replies new.greatest
  pub requests_short : AllByRecursion IsBody bodies
  pub replies_short : AllByRecursion IsBody replies

-- the session served all requests of its input, and the input has ended
pub record HasEnded {T : Type 0} (asks : T → Exchange → T → Type 0) (count : ℕ) (before after : T) (old new : Session)
    (unread left had has : Option (List ℕ)) (end : SessionEnd) : Type 0 where
  pub bodies : List (List ℕ)
  pub rest : List ℕ
  pub replies : List (List ℕ)
  pub read : Consumes unread left (flat_map framed bodies ++ rest)
  pub stands : EndsInput end rest
  pub at_end : IsAtEnd left
  pub served : Served asks count before after old bodies replies new
  pub written : Appends had has (flat_map framed replies)

-- what was read after the requests that were served, depending on the fault
abbrev pub StopsBehind : SessionFault → List (List ℕ) → List ℕ → Type 0
StopsBehind (fault.Read error) bodies rest = IsPartialRequest rest
StopsBehind (fault.Write error) bodies rest = (rest ≡ []) × (1 ≤ length bodies)
StopsBehind fault.NoMemory bodies rest = (rest ≡ []) × (bodies ≡ [])
StopsBehind fault.TooMany bodies rest = (rest ≡ []) × (length bodies ≡ 2 ^ 64 - 1)

-- what was written of the replies: all of them, or after a failed write a prefix
abbrev pub WritesUpTo : SessionFault → Option (List ℕ) → Option (List ℕ) → List ℕ → Type 0
WritesUpTo (fault.Read error) had has bytes = Appends had has bytes
WritesUpTo (fault.Write error) had has bytes = AppendsSome had has bytes
WritesUpTo fault.NoMemory had has bytes = Appends had has bytes
WritesUpTo fault.TooMany had has bytes = Appends had has bytes

-- the session served the first requests of its input, and then a fault stopped it
pub record HasStopped {T : Type 0} (asks : T → Exchange → T → Type 0) (count : ℕ) (before after : T) (old new : Session)
    (unread left had has : Option (List ℕ)) (fault : SessionFault) : Type 0 where
  pub bodies : List (List ℕ)
  pub rest : List ℕ
  pub replies : List (List ℕ)
  pub read : Consumes unread left (flat_map framed bodies ++ rest)
  pub stands : StopsBehind fault bodies rest
  pub served : Served asks count before after old bodies replies new
  pub written : WritesUpTo fault had has (flat_map framed replies)
