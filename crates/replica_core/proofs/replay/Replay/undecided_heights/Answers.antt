use Rattle.std.proofs.Common.{◌≡◌, ◌++◌, sym, ap, subst, ◌∙◌, append-nil}
use Rattle.std.specs.Prelude.{Some}
use Rattle.height_row.specs.Heights.{row_at, AreAscending}
use Rattle.replica_core.specs.Facts.{undecided_in}
use Rattle.replica_core.specs.Replays.{ReplayView}
use Rattle.replica_core.proofs.UndecidedHeights.{undecided_there}
use Rattle.replica_core.proofs.replay.Replay.undecided_heights.Goals as goal

pub returns-clause-same : goal.returns-clause-same
returns-clause-same g c = λ entries matches.
    let held : ReplayView = c.args.self.now in
    let same = ap (λ (x : ReplayView). x.rows) c.self.view_is in
    let own = c.instances-instance-items.ensures.own in
    sym (append-nil c.loop-instance.heights.items)
    ∙ ap (λ rows. c.loop-instance.heights.items ++ undecided_in rows) (sym c.in-None.ensures.steps.0) ∙ c.loop-instance.invariant
    ∙ undecided_there (g.A.Application.meaning) held entries matches
    (λ h row at. (own h row (subst (λ rows. row_at rows h ≡ Some row) (sym same) at)).0 ∙ c.self.invariant.1
    ∙ ap (λ (x : ReplayView). x.config) c.self.view_is)
    (subst AreAscending same c.instances-instance-items.ensures.ascend)
    (λ h row at. (own h row (subst (λ rows. row_at rows h ≡ Some row) (sym same) at)).3)
