-- Wrapped applications as contracts see them.
use Rattle.std.specs.Prelude.{ℕ}

-- an application, and the number of transactions that were delivered to it
pub record CountedApp (X : Type 0) : Type 0 where
  pub app : X
  pub delivered : ℕ

-- an application, and which of the next deliveries fails: 1 is the next one, 0 none
pub record RefusingApp (X : Type 0) : Type 0 where
  pub app : X
  pub refused : ℕ
