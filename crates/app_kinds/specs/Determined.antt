-- What the bytes of a state determine.
use Rattle.ledger_model.specs.declared.config.AppKind.{AppKind}
use Rattle.ledger_model.specs.Meanings.{Determines}
use Rattle.ledger_model.specs.Kinds.{meaning_of}

-- for each kind, the bytes whose SHA-256 is the hash determine what the application answers from then on
abbrev pub BytesDetermine : Type 0
BytesDetermine = (kind : AppKind) → Determines (meaning_of kind)
