use Rattle.std.proofs.Common.{not, ◌&&◌, sym, ap, ◌∙◌}
use Rattle.ledger_model.specs.Audits.{all_differ}
use Rattle.history_audit.proofs.Searching.{replicas_of, all_differ_first}
use Rattle.history_audit.proofs.counting.+do_replicas_differ.Goals as goal

pub returns-then-not-is_among : goal.returns-then-not-is_among
returns-then-not-is_among t c =
    let others = c.in-Some.others.now in
    c.do_replicas_differ.ensures
    ∙ sym (all_differ_first c.args.histories.now c.in-Some.first.now others (c.in-Some.ensures.cases.0)
    ∙ ap (λ b. not b && all_differ (replicas_of others)) (sym c.if-not-is_among.ensures))

pub returns-else-not-is_among : goal.returns-else-not-is_among
returns-else-not-is_among t c =
    let others = c.in-Some.others.now in
    ap not c.if-not-is_among.false
    ∙ sym (all_differ_first c.args.histories.now c.in-Some.first.now others (c.in-Some.ensures.cases.0)
    ∙ ap (λ b. not b && all_differ (replicas_of others)) (sym c.if-not-is_among.ensures))
