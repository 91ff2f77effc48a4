-- A message of 55 bytes that is hashed repeatedly; each time the digest replaces its last 32 bytes.
use Rattle.std.specs.Prelude.{ℕ, zero, suc, ◌+◌, ◌%◌, ◌<◌, List, [], ◌∷◌, ◌++◌, take, slice_index}
use Rattle.sha2.specs.Sha256.{sha256}

-- each element is a byte
abbrev pub AreBytes : List ℕ → Type 0
AreBytes m = (i : ℕ) → slice_index m i < 256

-- the message after one turn: the byte before the last 32 is incremented, and the last 32 are the digest
unfoldable pub next_message : List ℕ → List ℕ
next_message m = take 22 m ++ ((slice_index m 22 + 1) % 256 ∷ []) ++ sha256 m

-- the message after n turns
unfoldable pub after_turns : ℕ → List ℕ → List ℕ
after_turns zero m = m
after_turns (suc n) m = next_message (after_turns n m)
