-- What an audit of histories finds if memory suffices: their ledger, or the first fault. There is one finding at most.
use Rattle.ledger_model.specs.Meanings.{Meanings}
use Rattle.std.specs.Prelude.{◌≡◌, true, false, List, Result, Ok, Err}
use Rattle.ledger_model.specs.declared.config.Config.{Config}
use Rattle.ledger_model.specs.declared.history.History.{History}
use Rattle.ledger_model.specs.Values.{Value}
use Rattle.ledger_model.specs.Rules.{Ring}
use Rattle.ledger_model.specs.Audits.{are_of_a_quorum, AreReplays, IsFirstBreak, IsFirstUnsent, NothingUnsent}
use Rattle.ledger_model.specs.Worlds.{IsLedger}
use Rattle.history_audit.specs.declared.fault.AuditFault.{AuditFault}
use Rattle.history_audit.specs.declared.fault.AuditFault.TheVariants as fault

-- what an audit of these histories finds, if memory suffices
abbrev pub IsFinding : Meanings → Config → Ring → List History → Result (List Value) AuditFault → Type 0
IsFinding meaning config ring histories (Ok ledger) =
    (are_of_a_quorum config histories ≡ true)
    × (AreReplays meaning config ring histories × (NothingUnsent histories × IsLedger meaning config histories ledger))
IsFinding meaning config ring histories (Err fault.Count) = are_of_a_quorum config histories ≡ false
IsFinding meaning config ring histories (Err (fault.NotReplay r i)) =
    (are_of_a_quorum config histories ≡ true) × IsFirstBreak meaning config ring histories r i
IsFinding meaning config ring histories (Err (fault.Unsent reader i signer)) =
    (are_of_a_quorum config histories ≡ true) × (AreReplays meaning config ring histories × IsFirstUnsent histories reader i signer)
IsFinding meaning config ring histories (Err fault.NoMemory) = ⊥
