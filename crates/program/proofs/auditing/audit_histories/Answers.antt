use Rattle.std.proofs.Common.{◌∙◌}
use Rattle.byte_streams.proofs.Faults.{on_error}
use Rattle.program.specs.Auditing.{Audited}
use Rattle.program.proofs.HistoryOutputs.{done_nothing}
use Rattle.program.proofs.AuditingLemmas.{part_written}
use Rattle.program.proofs.auditing.audit_histories.Goals as goal

pub returns-in_err-finding-clause-audits : goal.returns-in_err-finding-clause-audits
returns-in_err-finding-clause-audits g c = on_error _ _ c.from_residual.ensures.0
    (done_nothing (Audited (g.A.Application.meaning) c.args.settings.now) c.args.histories.now _)

pub returns-in_err-text-clause-audits : goal.returns-in_err-text-clause-audits
returns-in_err-text-clause-audits g c = on_error _ _ c.from_residual-in_err-text.ensures.0
    (done_nothing (Audited (g.A.Application.meaning) c.args.settings.now) c.args.histories.now _)

pub returns-in_err-explanation-clause-audits : goal.returns-in_err-explanation-clause-audits
returns-in_err-explanation-clause-audits g c = on_error _ _ c.from_residual-in_err-explanation.ensures.0
    (done_nothing (Audited (g.A.Application.meaning) c.args.settings.now) c.args.histories.now _)

pub returns-in_err-write_output-clause-audits : goal.returns-in_err-write_output-clause-audits
returns-in_err-write_output-clause-audits g c =
    on_error _ _ c.from_residual-in_err-write_output.ensures.0
    (part_written (g.A.Application.meaning) c.args.settings.now c.args.histories.now c.in_ok-finding.finding c.check_receipt-receipt.result
    c.as_bytes.result.now _ _
    c.in_ok-finding.ensures.finds c.check_receipt-receipt.ensures (c.as_bytes.ensures ∙ c.in_ok-text.ensures)
    c.in_err-write_output.ensures.written)
