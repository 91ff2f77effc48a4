-- Lists of transactions that are all different.
use Rattle.std.specs.Prelude.{ℕ, List}
use Rattle.std.specs.List.{IsDistinct}
use Rattle.ledger_model.specs.Values.{same_bytes}

-- all transactions of the list are different
abbrev pub NoneTwice : List (List ℕ) → Type 0
NoneTwice txs = IsDistinct same_bytes txs
