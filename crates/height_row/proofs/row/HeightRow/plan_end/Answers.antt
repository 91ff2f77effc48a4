use Rattle.std.proofs.Common.{sym, ap, ◌∙◌}
use Rattle.std.specs.Option.{option_copied}
use Rattle.std.proofs.lemmas.Option.{same_Some}
use Rattle.std.proofs.lemmas.Result.{IfOk-weaker}
use Rattle.height_row.proofs.row.HeightRow.plan_end.Goals as goal

pub returns-clause-may : goal.returns-clause-may
returns-clause-may c =
    let there = sym c.get.ensures.row ∙ ap option_copied c.unwrap.ensures in
    IfOk-weaker c.plan_end.result _ _ (λ plan is row was. rw (sym (same_Some _ _ (sym there ∙ was))) is) c.plan_end.ensures.may

pub returns-clause-sends_on : goal.returns-clause-sends_on
returns-clause-sends_on c =
    let there = sym c.get.ensures.row ∙ ap option_copied c.unwrap.ensures in
    IfOk-weaker c.plan_end.result _ _ (λ plan is row was. rw (sym (same_Some _ _ (sym there ∙ was))) is) c.plan_end.ensures.sends_on

pub returns-clause-readable : goal.returns-clause-readable
returns-clause-readable c =
    let there = sym c.get.ensures.row ∙ ap option_copied c.unwrap.ensures in
    let height = (c.get.ensures.own c.args.height c.unwrap.result.now there).2 in
    IfOk-weaker c.plan_end.result _ _
    (λ plan is row was. rw (sym (same_Some _ _ (sym there ∙ was)), sym height) is) c.plan_end.ensures.readable
