-- The bytes of a public key.
use Rattle.std.specs.Prelude.{◌≡◌, ℕ, List, length}
use Rattle.hex.specs.Hex.{IsBytes}

-- the list is one of 56 bytes, as each public key is
pub record Is56Bytes (key : List ℕ) : Type 0 where
  pub counted : length key ≡ 56
  pub bytes : IsBytes key
