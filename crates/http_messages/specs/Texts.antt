-- Texts of byte strings.
use Rattle.std.specs.Prelude.{ℕ, List, [], ◌∷◌, ◌++◌, codes, Option, Some, None}
use Rattle.base64.specs.Engines.{standard}
use Rattle.base64.specs.GeneralPurpose.{encode_of}
use Rattle.hex.specs.Hex.{encode_upper}
use Rattle.sha2.specs.Sha256.{sha256}

-- the pieces, one after another
abbrev pub joined : List (List ℕ) → List ℕ
joined [] = []
joined (p ∷ []) = p
joined (p ∷ q ∷ ps) = p ++ joined (q ∷ ps)

-- bytes in base64 (RFC 4648, section 4)
unfoldable pub base64_text : List ℕ → List ℕ
base64_text bytes = encode_of standard bytes

-- the hash of a transaction: its SHA-256 in upper-case hexadecimal digits
unfoldable pub hash_text : List ℕ → List ℕ
hash_text tx = encode_upper (sha256 tx)

-- a value in base64 and quotes, or `null`
unfoldable pub json_value : Option (List ℕ) → List ℕ
json_value (Some bytes) = joined (codes "\"" ∷ base64_text bytes ∷ codes "\"" ∷ [])
json_value None = codes "null"
