-- Transactions that are stored with their bytes as keys.
use Rattle.std.specs.Prelude.{◌≡◌, ℕ, List, [], ◌∷◌, Vec}
use Rattle.std.specs.declared.alloc.Global.{Global}

-- a key, and the transaction under it
abbrev pub PoolEntry : Type 0
PoolEntry = Vec ℕ Global × List ℕ

-- each transaction is stored under its bytes
abbrev pub AreKeyed : List PoolEntry → Type 0
AreKeyed [] = Unit {0}
AreKeyed (e ∷ es) = (e.0.items ≡ e.1) × AreKeyed es
