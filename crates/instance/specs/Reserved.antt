-- The memory that storing a statement of the replica's own needs besides its frame.
use Rattle.std.specs.Prelude.{◌≡◌, true, IsTrue, Some}
use Rattle.ledger_model.specs.declared.statement.SignedStatement.{SignedStatement}
use Rattle.ledger_model.specs.Notes.{is_report, is_ack}
use Rattle.ledger_model.specs.Locks.{lock_value}
use Rattle.instance.specs.declared.round_statement.Reserved.{Reserved}
use Rattle.instance.specs.declared.round_statement.Reserved.TheVariants as kept

-- the memory is for the frame's statement
abbrev pub IsReservedFor : SignedStatement → Reserved → Type 0
IsReservedFor f (kept.Report signature) = IsTrue (is_report (λ r. true) f.statement) × (signature ≡ f.signature)
IsReservedFor f (kept.Lock made taken) = (lock_value f.statement ≡ Some made) × (lock_value f.statement ≡ Some taken)
IsReservedFor f kept.Ack = IsTrue (is_ack (λ a. true) f.statement)
