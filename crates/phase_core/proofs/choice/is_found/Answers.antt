use Rattle.std.proofs.Common.{ap, ◌∙◌}
use Rattle.std.specs.Prelude.{nat_le, count_ones}
use Rattle.ledger_model.specs.Rounds.{quorum}
use Rattle.phase_core.proofs.Listed.{found_by_ones}
use Rattle.phase_core.proofs.choice.is_found.Goals as goal

pub returns : goal.returns
returns c =
    c.is_quorum.ensures ∙ ap (λ m. nat_le (quorum c.args.config.now) (count_ones m)) c.finds.ensures.mask
    ∙ found_by_ones c.args.config.now c.args.reports.now c.args.value.now
