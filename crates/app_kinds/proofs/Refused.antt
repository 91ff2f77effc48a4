-- No refusal has code 0.
use Rattle.std.proofs.Common.{◌≡◌, false, refl}
use Rattle.std.specs.Prelude.{◌==◌}
use Rattle.app_kinds.specs.declared.refusal.Refusal.{Refusal}
use Rattle.app_kinds.specs.declared.refusal.Refusal.TheVariants.{Misspelled, OutOfTurn, Overdrawn, ToItself}
use Rattle.app_kinds.specs.Codes.{code_of}

pub code_of-not_zero : (r : Refusal) → (code_of r == 0) ≡ false
code_of-not_zero Misspelled = refl
code_of-not_zero OutOfTurn = refl
code_of-not_zero Overdrawn = refl
code_of-not_zero ToItself = refl
