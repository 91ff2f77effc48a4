-- What is printed of an audit: the ledger or the first fault, and whether a receipt holds.
use Rattle.std.specs.Prelude.{ℕ, ◌+◌, Bool, true, false, List, [], ◌∷◌, ◌++◌, length, codes, decimal, Result, Ok, Err}
use Rattle.std.specs.List.{list_any}
use Rattle.ledger_model.specs.declared.history.History.{History}
use Rattle.ledger_model.specs.Values.{Value}
use Rattle.ledger_model.specs.Audits.{is_receipt}
use Rattle.plain_text.specs.Transactions.{batch_text}
use Rattle.history_audit.specs.Faults.{audit_fault_number}
use Rattle.history_audit.specs.declared.fault.AuditFault.{AuditFault}
use Rattle.history_audit.specs.declared.fault.AuditFault.TheVariants as fault

-- the line of a block: its height and its batch
abbrev pub block_line : ℕ → Value → List ℕ
block_line h v = decimal h ++ codes " " ++ batch_text v ++ codes "\n"

-- the lines of blocks, of which the first has height h
abbrev pub block_lines : ℕ → List Value → List ℕ
block_lines h [] = []
block_lines h (v ∷ vs) = block_line h v ++ block_lines (h + 1) vs

-- the number of blocks, and the line of each from height 1 on
unfoldable pub ledger_text : List Value → List ℕ
ledger_text ledger = codes "ledger " ++ decimal (length ledger) ++ codes "\n" ++ block_lines 1 ledger

-- what the line of a fault begins with: its number
abbrev pub fault_head : AuditFault → List ℕ
fault_head f = codes "fault " ++ decimal (audit_fault_number f)

-- the line of a fault; NoMemory has none, since it stops the program
abbrev pub fault_text : AuditFault → List ℕ
fault_text fault.Count = fault_head fault.Count ++ codes " Count\n"
fault_text (fault.NotReplay r i) =
    fault_head (fault.NotReplay r i) ++ codes " NotReplay " ++ decimal r ++ codes " " ++ decimal i ++ codes "\n"
fault_text (fault.Unsent reader i signer) =
    fault_head (fault.Unsent reader i signer) ++ codes " Unsent " ++ decimal reader ++ codes " " ++ decimal i ++ codes " "
    ++ decimal signer ++ codes "\n"
fault_text fault.NoMemory = []

-- what is printed of a finding
abbrev pub finding_text : Result (List Value) AuditFault → List ℕ
finding_text (Ok ledger) = ledger_text ledger
finding_text (Err fault) = fault_text fault

-- the exit status of a program that prints a finding: 0 for a ledger, and 1 for a fault
abbrev pub finding_status : Result (List Value) AuditFault → ℕ
finding_status (Ok ledger) = 0
finding_status (Err fault) = 1

-- a history among these is replica r's, and its entry i took the transaction into the pool
abbrev pub has_receipt : List History → ℕ → ℕ → List ℕ → Bool
has_receipt histories r i tx = list_any (λ (m : History). is_receipt m r i tx) histories

-- whether a receipt holds
abbrev pub receipt_line : Bool → List ℕ
receipt_line true = codes "receipt ok\n"
receipt_line false = codes "receipt wrong\n"
