-- Requests in a stream of bytes, and what follows the last whole one.
use Rattle.std.specs.Prelude.{◌≡◌, ◌⊎◌, ℕ, ◌+◌, ◌<◌, ◌≤◌, ◌^◌, List, [], length, take, Option}
use Rattle.std.specs.Int.{w16, from_be_bytes}
use Rattle.std.specs.Io.KnownBytes.{Consumes, IsAtEnd}
use Rattle.ledger_model.specs.Sessions.{framed}
use Rattle.client_sessions.specs.declared.session_end.SessionEnd.{SessionEnd}
use Rattle.client_sessions.specs.declared.session_end.SessionEnd.TheVariants.{Clean, Cut}
use Rattle.client_sessions.specs.declared.receiving.Received.{Received}
use Rattle.client_sessions.specs.declared.receiving.Received.TheVariants.{Body, End}

-- the length that a request announces for its body
abbrev pub request_length : List ℕ → ℕ
request_length bytes = from_be_bytes w16 (take 2 bytes)

-- less than a whole request: not even its length, or not its whole body
abbrev pub IsPartialRequest : List ℕ → Type 0
IsPartialRequest bytes = (length bytes < 2) ⊎ (length bytes < 2 + request_length bytes)

-- a body whose length fits into two bytes
abbrev pub IsBody : List ℕ → Type 0
IsBody body = length body < 2 ^ 16

-- how the input ended: with nothing after the last whole request, or with part of a request
abbrev pub EndsInput : SessionEnd → List ℕ → Type 0
EndsInput Clean rest = rest ≡ []
EndsInput Cut rest = (1 ≤ length rest) × IsPartialRequest rest

-- the input has ended, after these last bytes
pub record EndsBehind (unread left : Option (List ℕ)) (end : SessionEnd) : Type 0 where
  pub rest : List ℕ
  pub read : Consumes unread left rest
  pub stands : EndsInput end rest
  pub at_end : IsAtEnd left

-- less than a whole request was read
pub record ReadsPart (unread left : Option (List ℕ)) : Type 0 where
  pub rest : List ℕ
  pub read : Consumes unread left rest
  pub part : IsPartialRequest rest

-- what was received into the buffer: a whole request with a body of `count` bytes, or the end of the input
abbrev pub Receives : Option (List ℕ) → Option (List ℕ) → List ℕ → Received → Type 0
Receives unread left buffer (Body count) =
    (count ≤ length buffer) × (IsBody (take count buffer) × Consumes unread left (framed (take count buffer)))
Receives unread left buffer (End end) = EndsBehind unread left end
