-- The words that a program has for its application.
use Rattle.std.specs.Prelude.{ℕ, List}
use Rattle.ledger_model.specs.declared.config.AppKinds.{AppKinds}

-- the program's name, a transaction by default in its printed form, and the kinds of applications that the program has
pub record ProgramWords : Type 0 where
  pub name : List ℕ
  pub first_tx : List ℕ
  pub kinds : AppKinds
