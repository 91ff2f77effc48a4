-- How far a buffer was filled by reads that may fail.
use Rattle.std.specs.Prelude.{ℕ, ◌<◌, ◌≤◌, List, length, take, Option}
use Rattle.std.specs.Io.KnownBytes.{Consumes, IsAtEnd}

-- `count` bytes of the buffer were read, and if the buffer isn't full, the input has no more
pub record Fills (unread left : Option (List ℕ)) (buffer : List ℕ) (count : ℕ) : Type 0 where
  pub within : count ≤ length buffer
  pub read : Consumes unread left (take count buffer)
  pub end : count < length buffer → IsAtEnd left

-- fewer than `most` bytes were read
pub record ReadsFewer (unread left : Option (List ℕ)) (most : ℕ) : Type 0 where
  pub bytes : List ℕ
  pub fewer : length bytes < most
  pub read : Consumes unread left bytes
