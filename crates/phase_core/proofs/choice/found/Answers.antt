use Rattle.std.proofs.Common.{Some, None, sym, ap, ◌∙◌, cond}
use Rattle.phase_core.proofs.Listed.{found_is}
use Rattle.phase_core.proofs.choice.found.Goals as goal

pub returns-then-is_quorum : goal.returns-then-is_quorum
returns-then-is_quorum c = λ known.
    let found = found_is c.args.reports.now c.args.reported.now c.args.config.now c.in_ok-value.value.now c.finding.result known
    (sym c.in_ok-value.ensures) c.finding.ensures in
    sym (found ∙ ap (λ b. cond b (Some c.in_ok-value.value.now) None) (sym c.is_quorum.ensures ∙ c.if-is_quorum.true))

pub returns-else-is_quorum : goal.returns-else-is_quorum
returns-else-is_quorum c = λ known.
    let found = found_is c.args.reports.now c.args.reported.now c.args.config.now c.in_ok-value.value.now c.finding.result known
    (sym c.in_ok-value.ensures) c.finding.ensures in
    sym (found ∙ ap (λ b. cond b (Some c.in_ok-value.value.now) None) (sym c.is_quorum.ensures ∙ c.if-is_quorum.false))
