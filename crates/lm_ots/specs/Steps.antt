-- The 55 bytes that a step of a chain hashes, `I || u32(q) || u16(i) || u8(j) || tmp`, and steps one after another.
use Rattle.std.specs.Prelude.{◌≡◌, ℕ, zero, suc, ◌+◌, ◌%◌, List, [], ◌∷◌, ◌++◌, length, take, drop, slice_index}
use Rattle.sha2.specs.Sha256.{sha256}

-- the bytes that identify the chain, `I || u32(q) || u16(i)`
abbrev pub place_in : List ℕ → List ℕ
place_in message = take 22 message

-- the number of the step
abbrev pub step_in : List ℕ → ℕ
step_in message = slice_index message 22

-- the value that the step starts from
abbrev pub step_input : List ℕ → List ℕ
step_input message = drop 23 message

-- step j of the chain identified by `place`
abbrev pub stepped : List ℕ → ℕ → List ℕ → List ℕ
stepped place j value = sha256 (place ++ (j ∷ []) ++ value)

-- n steps of the chain identified by `place`, from step j on; step 0 follows step 255, which makes the chain's start from the seed
unfoldable pub walk : List ℕ → ℕ → ℕ → List ℕ → List ℕ
walk place j zero value = value
walk place j (suc n) value = walk place ((j + 1) % 256) n (stepped place j value)

-- the value after n steps, the first of which hashes this message
abbrev pub rest_of : List ℕ → ℕ → List ℕ
rest_of message n = walk (place_in message) (step_in message) n (step_input message)

-- `after` is the message of the step that follows the one whose message is `before`
pub record IsNext (before after : List ℕ) : Type 0 where
  pub whole : length before ≡ 55
  pub place : place_in after ≡ place_in before
  pub step : step_in after ≡ (step_in before + 1) % 256
  pub value : step_input after ≡ sha256 before
