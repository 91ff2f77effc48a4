-- Which faults stop the program, and when.
use Rattle.std.specs.Prelude.{◌≡◌, ◌≤◌, ⊤, IsTrue, List, length}
use Rattle.ledger_model.specs.declared.history.Entry.{Entry}
use Rattle.std.specs.IoError.{error_kind}
use Rattle.std.specs.declared.io.ErrorKind.TheVariants.{Interrupted}
use Rattle.byte_streams.specs.declared.program_fault.ProgramFault.{ProgramFault}
use Rattle.byte_streams.specs.declared.program_fault.ProgramFault.TheVariants as fault
use Rattle.ledger_model.specs.Limits.{max_history_len}
use Rattle.byte_streams.specs.Faults.{is_asked}
use Rattle.byte_streams.specs.declared.resource.Resource.TheVariants.{Input}

-- a read of standard input failed, and was not just interrupted
abbrev pub IsReadFault : ProgramFault → Type 0
IsReadFault (fault.Refused resource error) = (resource ≡ Input) × (error_kind error ≡ Interrupted → ⊥)
IsReadFault _ = ⊥

-- memory ran out, the system refused standard input, standard output or random bytes, or the replica's history has all the entries
-- that a history takes
abbrev pub FailsAfter : List Entry → ProgramFault → Type 0
FailsAfter entries fault.NoMemory = ⊤
FailsAfter entries (fault.Refused resource error) = IsTrue (is_asked resource)
FailsAfter entries fault.HistoryFull = max_history_len ≤ length entries
FailsAfter entries _ = ⊥
