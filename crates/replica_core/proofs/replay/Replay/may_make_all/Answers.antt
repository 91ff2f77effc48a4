use Rattle.std.proofs.Common.{◌≡◌, inl, inr, Some, ap, sym, subst, ◌∙◌}
use Rattle.std.specs.Iterator.Adapters.{zip_first, zip_second}
use Rattle.std.specs.Slice.Iter.{iter_rest}
use Rattle.instance.specs.Instances.{InstanceView}
use Rattle.instance.specs.Plans.{IsOwnMade}
use Rattle.height_row.specs.Heights.{row_at, AreFound}
use Rattle.ledger_model.specs.Logs.{log_of}
use Rattle.replica_core.specs.Replays.{ReplayView}
use Rattle.replica_core.proofs.JudgedMades.{judging_begins, judging_next, judged_row, judged_made, judged_may, judged_own}
use Rattle.replica_core.proofs.replay.Replay.may_make_all.Goals as goal

pub loop-instance-init : goal.loop-instance-init
loop-instance-init g c =
    let held : ReplayView = c.args.self.now in
    let gives = c.into_iter-instance-iterator.ensures.into_iter_gives in
    let same = ap (λ (x : ReplayView). x.rows) c.self.view_is in
    let rows = ap zip_first gives ∙ c.zip-instance-items.ensures.first ∙ c.instances.ensures.rows ∙ same in
    let left = ap (λ z. iter_rest (zip_second z)) gives ∙ c.zip-instance-items.ensures.second.0 in
    rw (rows, left) (judging_begins (g.A.Application.meaning) held c.args.closings.now
    (subst AreFound same c.instances.ensures.found) c.requires.count)

pub loop-instance-preserved : goal.loop-instance-preserved
loop-instance-preserved g c =
    let held : ReplayView = c.args.self.now in
    let row : InstanceView = c.in-Some.instance.now in
    let steps = c.in-Some.ensures.steps in
    let here = judged_row (g.A.Application.meaning) held c.args.closings.now row _ c.loop-instance.invariant steps.0 in
    let inside = subst (λ rows. row_at rows row.height ≡ Some row) (sym (ap (λ (x : ReplayView). x.rows) c.self.view_is)) here in
    let config : row.config ≡ held.config = (c.instances.ensures.own row.height row inside).0 ∙ c.self.invariant.1
    ∙ ap (λ (x : ReplayView). x.config) c.self.view_is in
    let id : row.id ≡ held.id = (c.instances.ensures.own row.height row inside).1 ∙ c.self.invariant.2
    ∙ ap (λ (x : ReplayView). x.id) c.self.view_is in
    judging_next (g.A.Application.meaning) held c.args.closings.now row _ c.in-Some.closing.now _ c.loop-instance.invariant steps.0 steps.1
    (rw (sym config, sym id) (c.may_make.ensures.own c.if-not-may_make.false))
    (λ entries matches. c.may_make.ensures.may (log_of held.config held.id row.height entries) (matches.opened row.height row here)
    (matches.clocks row.height) c.if-not-may_make.false)

pub returns-then-not-may_make-clause-only : goal.returns-then-not-may_make-clause-only
returns-then-not-may_make-clause-only g c = λ entries matches made.
    let held : ReplayView = c.args.self.now in
    let row : InstanceView = c.in-Some.instance.now in
    let steps = c.in-Some.ensures.steps in
    let here = judged_row (g.A.Application.meaning) held c.args.closings.now row _ c.loop-instance.invariant steps.0 in
    sym c.if-not-may_make.true
    ∙ c.may_make.ensures.only (log_of held.config held.id row.height entries) (matches.opened row.height row here)
    (matches.clocks row.height)
    (judged_made (g.A.Application.meaning) held c.args.closings.now row _ c.in-Some.closing.now _ c.loop-instance.invariant steps.0 steps.1
    made)

pub returns-clause-may : goal.returns-clause-may
returns-clause-may g c = λ entries matches yes.
    judged_may (g.A.Application.meaning) c.args.self.now c.args.closings.now c.loop-instance.invariant
    (elim c.in-None.ensures.steps [ inl first ↦ inl first.1.0 | inr second ↦ inr second.1.0 ]) entries matches

pub returns-clause-own : goal.returns-clause-own
returns-clause-own g c = λ yes.
    judged_own (g.A.Application.meaning) c.args.self.now c.args.closings.now c.loop-instance.invariant
    (elim c.in-None.ensures.steps [ inl first ↦ inl first.1.0 | inr second ↦ inr second.1.0 ])
