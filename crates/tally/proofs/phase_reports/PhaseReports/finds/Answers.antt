use Rattle.std.proofs.Common.{◌∙◌, ap}
use Rattle.std.specs.Int.{bit_at}
use Rattle.ledger_model.specs.Locks.{finds}
use Rattle.tally.proofs.MaskBits.{mask_bit}
use Rattle.tally.proofs.phase_reports.PhaseReports.finds.Goals as goal

pub returns-clause-bits : goal.returns-clause-bits
returns-clause-bits c = λ r.
    ap (λ m. bit_at m r) (c.finding.ensures c.args.value.now c.masks_of.ensures)
    ∙ mask_bit (λ s. finds s.report c.args.value.now) c.args.self.now r
