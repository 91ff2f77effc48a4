-- The head of a request, read from a stream.
use Rattle.std.specs.Prelude.{◌≡◌, ◌≢◌, ◌⊎◌, ℕ, ◌<◌, ◌≤◌, List, [], length, take, Option, Result, Err}
use Rattle.std.specs.Io.KnownBytes.{Consumes, IsAtEnd}
use Rattle.http_messages.specs.declared.fault.RequestFault.{RequestFault}
use Rattle.http_messages.specs.declared.fault.RequestFault.TheVariants as fault
use Rattle.http_messages.specs.declared.request.Request.{Request}
use Rattle.http_messages.specs.Limits.{max_head_len}
use Rattle.http_messages.specs.Requests.{AnswersHead}

-- these bytes are less than a head: there are none, or more of them may make one
abbrev pub IsPart : List ℕ → Type 0
IsPart bytes = (bytes ≡ []) ⊎ AnswersHead bytes (Err fault.Incomplete)

-- the right answer if more bytes follow these: they are a head or can't become one; if they could, the head is too long
abbrev pub AnswersCut : List ℕ → Result Request RequestFault → Type 0
AnswersCut bytes asked =
    (AnswersHead bytes asked × (asked ≢ Err fault.Incomplete)) ⊎ (AnswersHead bytes (Err fault.Incomplete) × (asked ≡ Err fault.TooLong))

-- the right answer to bytes that were read: only the first max_head_len of them can be a head
abbrev pub AnswersRead : List ℕ → Result Request RequestFault → Type 0
AnswersRead bytes asked =
    ((length bytes ≤ max_head_len) × AnswersHead bytes asked) ⊎ ((max_head_len < length bytes) × AnswersCut (take max_head_len bytes) asked)

-- at most `most` bytes were read, which ask this; if they end within a head, so did the input
pub record Hears (most : ℕ) (unread left : Option (List ℕ)) (asked : Result Request RequestFault) : Type 0 where
  pub bytes : List ℕ
  pub some : 1 ≤ length bytes
  pub within : length bytes ≤ most
  pub read : Consumes unread left bytes
  pub answers : AnswersRead bytes asked
  pub end : asked ≡ Err fault.Incomplete → IsAtEnd left

-- the input ended without a byte
pub record HearsNone (unread left : Option (List ℕ)) : Type 0 where
  pub read : Consumes unread left []
  pub end : IsAtEnd left

-- a read failed after at most `most` bytes, less than a head; any read can fail, so none follows a head
pub record HearsPart (most : ℕ) (unread left : Option (List ℕ)) : Type 0 where
  pub bytes : List ℕ
  pub part : IsPart bytes
  pub within : length bytes ≤ most
  pub read : Consumes unread left bytes
