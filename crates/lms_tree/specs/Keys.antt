-- The meaning of the bytes of a public key.
use Rattle.std.specs.Prelude.{ℕ, List, Option, take, drop}
use Rattle.std.specs.Int.{w32, from_be_bytes}
use Rattle.ledger_model.specs.Signatures.{Params, params_of}

-- the parameter set of the two type codes with which a key starts (RFC 8554, section 5.3)
abbrev pub scheme_of : List ℕ → Option Params
scheme_of key = params_of (from_be_bytes w32 (take 4 key)) (from_be_bytes w32 (take 4 (drop 4 key)))
