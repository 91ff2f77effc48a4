-- The codes of refusals.
use Rattle.std.specs.Prelude.{ℕ}
use Rattle.app_kinds.specs.declared.refusal.Refusal.{Refusal}
use Rattle.app_kinds.specs.declared.refusal.Refusal.TheVariants.{Misspelled, OutOfTurn, Overdrawn, ToItself}

-- the code of a refusal, as CheckTx and DeliverTx return it
abbrev pub code_of : Refusal → ℕ
code_of Misspelled = 1
code_of OutOfTurn = 2
code_of Overdrawn = 3
code_of ToItself = 4
