-- The words of the program that has the three applications.
use Rattle.std.specs.Prelude.{codes}
use Rattle.ledger_model.specs.declared.config.AppKinds.TheVariants.{Three}
use Rattle.app_states.specs.ProgramWords.{ProgramWords}

-- its name, a transaction that each pool is given by default, and its kinds
abbrev pub abft_words : ProgramWords
abft_words = record { name = codes "abft"; first_tx = codes "a=1"; kinds = Three }
