-- The order of transactions and of values: the byte order of their encodings.
use Rattle.std.specs.Prelude.{ℕ, List, ◌∷◌, length}
use Rattle.std.specs.declared.cmp.Ordering.{Ordering}
use Rattle.std.specs.Ordering.{nat_cmp, on}
use Rattle.std.specs.Cmp.Lexicographic.{slice_cmp}
use Rattle.ledger_model.specs.Values.{Value, value_bytes}

-- the bytes that a transaction contributes to a value's encoding
abbrev pub tx_bytes : List ℕ → List ℕ
tx_bytes tx = length tx ∷ tx

-- the shorter transaction comes first; if both have the same length, the first byte that differs decides
abbrev pub tx_cmp : List ℕ → List ℕ → Ordering
tx_cmp = on tx_bytes (slice_cmp nat_cmp)

-- the order of values: the byte order of their encodings
abbrev pub value_cmp : Value → Value → Ordering
value_cmp = on value_bytes (slice_cmp nat_cmp)
