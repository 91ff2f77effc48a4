-- Failures of a session's streams, and the faults that they cause.
use Rattle.std.specs.Prelude.{ℕ, Result, Ok, Err}
use Rattle.client_sessions.specs.declared.session_end.SessionFault.{SessionFault}
use Rattle.client_sessions.specs.declared.session_end.SessionFault.TheVariants as fault

-- the number of failures of one call with this result
abbrev pub failures_in : {T E : Type 0} → Result T E → ℕ
failures_in (Ok x) = 0
failures_in (Err error) = 1

-- the number of reads that failed in a session with this result
abbrev pub read_failures_in : {T : Type 0} → Result T SessionFault → ℕ
read_failures_in (Ok x) = 0
read_failures_in (Err (fault.Read error)) = 1
read_failures_in (Err (fault.Write error)) = 0
read_failures_in (Err fault.NoMemory) = 0
read_failures_in (Err fault.TooMany) = 0

-- the number of writes that failed in a session with this result
abbrev pub write_failures_in : {T : Type 0} → Result T SessionFault → ℕ
write_failures_in (Ok x) = 0
write_failures_in (Err (fault.Read error)) = 0
write_failures_in (Err (fault.Write error)) = 1
write_failures_in (Err fault.NoMemory) = 0
write_failures_in (Err fault.TooMany) = 0
