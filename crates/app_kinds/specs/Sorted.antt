-- The pairs of a store as contracts see them.
use Rattle.std.specs.Prelude.{ℕ, ◌≤◌, List, [], ◌∷◌, length, map, Vec}
use Rattle.std.specs.declared.alloc.Global.{Global}
use Rattle.ledger_model.specs.Limits.{max_tx_len}

-- a key and its value
abbrev pub Pair : Type 0
Pair = List ℕ × List ℕ

-- the bytes of each key and value
abbrev pub pair_bytes : List (Vec ℕ Global × Vec ℕ Global) → List Pair
pair_bytes entries = map (λ e. (e.0.items, e.1.items)) entries

-- each key and value is no longer than a transaction
abbrev pub FitTransactions : List Pair → Type 0
FitTransactions [] = Unit {0}
FitTransactions (p ∷ ps) = (length p.0 ≤ max_tx_len) × (length p.1 ≤ max_tx_len) × FitTransactions ps
