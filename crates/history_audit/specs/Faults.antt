-- The number of each fault of an audit.
use Rattle.std.specs.Prelude.{ℕ}
use Rattle.history_audit.specs.declared.fault.AuditFault.{AuditFault}
use Rattle.history_audit.specs.declared.fault.AuditFault.TheVariants as fault

-- the number of a fault
abbrev pub audit_fault_number : AuditFault → ℕ
audit_fault_number fault.Count = 1
audit_fault_number (fault.NotReplay r i) = 2
audit_fault_number (fault.Unsent reader i signer) = 3
audit_fault_number fault.NoMemory = 4
