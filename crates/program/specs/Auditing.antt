-- What `abft audit` writes for the bytes that it reads.
use Rattle.ledger_model.specs.Meanings.{Meanings}
use Rattle.std.specs.Prelude.{◌≡◌, ℕ, Bool, false, List, ◌++◌, Option, Some, None, Result, Ok, Err}
use Rattle.ledger_model.specs.declared.history.History.{History}
use Rattle.ledger_model.specs.Values.{Value}
use Rattle.cluster_setup.specs.KnownClusters.{known_config, known_ring}
use Rattle.history_audit.specs.declared.fault.AuditFault.{AuditFault}
use Rattle.history_audit.specs.Findings.{IsFinding}
use Rattle.printed_lines.specs.AuditLines.{finding_status, finding_text, has_receipt, receipt_line}
use Rattle.cluster_setup.specs.declared.audit_settings.AuditSettings.{AuditSettings}
use Rattle.cluster_setup.specs.declared.audit_settings.Receipt.{Receipt}
use Rattle.program.specs.HistoryInput.{Outputs, OutputsSome}

-- whether the receipt holds in one of the histories, if there is a receipt
abbrev pub receipt_check : Option Receipt → List History → Option Bool
receipt_check None histories = None
receipt_check (Some r) histories = Some (has_receipt histories r.replica r.index r.tx)

-- what is printed of a finding: after a ledger, whether the receipt holds
abbrev pub audit_text : Result (List Value) AuditFault → Option Bool → List ℕ
audit_text (Ok ledger) None = finding_text (Ok ledger)
audit_text (Ok ledger) (Some holds) = finding_text (Ok ledger) ++ receipt_line holds
audit_text (Err fault) receipt = finding_text (Err fault)

-- the exit status: 0 for a ledger, unless the receipt is wrong
abbrev pub audit_status : Result (List Value) AuditFault → Option Bool → ℕ
audit_status (Ok ledger) (Some false) = 1
audit_status finding receipt = finding_status finding

-- an audit of these histories has this status, and this is printed of what it finds
pub record Audited (meaning : Meanings) (s : AuditSettings) (histories : List History) (status : ℕ) (text : List ℕ) : Type 0 where
  pub finding : Result (List Value) AuditFault
  pub found : IsFinding meaning (known_config s.cluster) (known_ring s.cluster) histories finding
  pub ends : status ≡ audit_status finding (receipt_check s.receipt histories)
  pub shows : text ≡ audit_text finding (receipt_check s.receipt histories)

-- the whole input was read, and what is printed for it was written
abbrev pub Audits : Meanings → AuditSettings → ℕ → Option (List ℕ) → Option (List ℕ) → Option (List ℕ) → Option (List ℕ) → Type 0
Audits meaning s status unread left before after = Outputs (known_config s.cluster).frames (Audited meaning s) status unread left before after

-- nothing was written, or the whole input was read, and a prefix of what is printed for it was written
abbrev pub AuditsSome : Meanings → AuditSettings → Option (List ℕ) → Option (List ℕ) → Option (List ℕ) → Option (List ℕ) → Type 0
AuditsSome meaning s unread left before after = OutputsSome (known_config s.cluster).frames (Audited meaning s) unread left before after
