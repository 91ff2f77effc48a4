-- What `abft audit` prints of histories.
use Rattle.ledger_model.specs.Meanings.{Meanings}
use Rattle.std.proofs.Common.{◌≡◌, ◌∙◌, ℕ, ◌≤◌, Bool, true, false, List, refl, ap, inl, inr, arith}
use Rattle.std.specs.Prelude.{Option, Some, None, Result, Ok, Err}
use Rattle.ledger_model.specs.declared.history.History.{History}
use Rattle.ledger_model.specs.Values.{Value}
use Rattle.cluster_setup.specs.KnownClusters.{known_config, known_ring}
use Rattle.history_audit.specs.declared.fault.AuditFault.{AuditFault}
use Rattle.history_audit.specs.Findings.{IsFinding}
use Rattle.cluster_setup.specs.declared.audit_settings.AuditSettings.{AuditSettings}
use Rattle.byte_streams.specs.Writing.{AppendsSome}
use Rattle.program.specs.HistoryInput.{IsOutputFor, OutputsDoneSome}
use Rattle.program.specs.Auditing.{Audited, audit_status, audit_text, receipt_check}

-- a prefix of what is printed of the finding was written
pub part_written : (meaning : Meanings) (s : AuditSettings) (histories : List History) (finding : Result (List Value) AuditFault)
    (receipt : Option Bool)
    (text : List ℕ) (before after : Option (List ℕ))
    → IsFinding meaning (known_config s.cluster) (known_ring s.cluster) histories finding → receipt ≡ receipt_check s.receipt histories
    → text ≡ audit_text finding receipt → AppendsSome before after text → OutputsDoneSome (Audited meaning s) histories before after
part_written meaning s histories finding receipt text before after found checked shows written = (
  text,
  (
    inr (
      audit_status finding (receipt_check s.receipt histories),
      record { finding = finding; found = found; ends = refl; shows = shows ∙ ap (audit_text finding) checked },
    ),
    written,
  ),
)

-- a status of an audit is 0 or 1
status_small : (finding : Result (List Value) AuditFault) (receipt : Option Bool) → audit_status finding receipt ≤ 1
status_small (Ok ledger) None = omega arith
status_small (Ok ledger) (Some true) = omega arith
status_small (Ok ledger) (Some false) = omega arith
status_small (Err fault) receipt = omega arith

pub audited_small : (meaning : Meanings) (s : AuditSettings) (input : List ℕ) (status : ℕ) (text : List ℕ)
    → IsOutputFor (known_config s.cluster).frames (Audited meaning s) input status text → status ≤ 1
audited_small meaning s input status text (inl (none, one, shows)) = omega (arith, one)
audited_small meaning s input status text (inr (histories, reads, audited)) =
    let small = status_small audited.finding (receipt_check s.receipt histories) in
    let ends = audited.ends in
    omega (arith, small, ends)
