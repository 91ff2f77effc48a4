use Rattle.std.proofs.Common.{inl, inr, refl, ap, ◌∙◌, arith}
use Rattle.std.specs.Iterator.Adapters.{zip_first, zip_second}
use Rattle.std.specs.Vec.Iter.{into_iter_items}
use Rattle.replica_core.proofs.ShownClosings.{showing_next, showing_ends, showing_makes}
use Rattle.replica_core.proofs.shown_frames.show_each.Goals as goal

pub loop-instance-init : goal.loop-instance-init
loop-instance-init c =
    let gives = c.into_iter-instance-iterator.ensures.into_iter_gives in
    let rows = ap zip_first gives ∙ c.zip-instance-items.ensures.first in
    let ends = ap (λ z. into_iter_items (zip_second z)) gives ∙ c.zip-instance-items.ensures.second.0 in
    rw (rows, ends, c.in_ok-closings.ensures.items) (record { count = c.requires.count; ended = refl; makes = refl })

pub loop-instance-preserved : goal.loop-instance-preserved
loop-instance-preserved c =
    let steps = c.in-Some.ensures.steps in
    let closing = rw c.height.ensures at c.in_ok-push_shown.ensures.closing in
    let left = rw c.height.ensures at c.in_ok-push_shown.ensures.left in
    rw closing
    (showing_next c.args.instances c.args.endings.items c.args.frames.now.items c.loop-instance.frames.items c.loop-instance.closings.items
    c.in-Some.instance.now _ c.in-Some.ending _ _ _ c.loop-instance.invariant steps.0 steps.1.0 refl refl left)

pub returns-clause-endings : goal.returns-clause-endings
returns-clause-endings c =
    showing_ends c.args.instances c.args.endings.items c.args.frames.now.items c.loop-instance.frames.items c.loop-instance.closings.items
    c.loop-instance.invariant
    (elim c.in-None.ensures.steps [ inl first ↦ inl first.1.0 | inr second ↦ inr (let none = second.1.0 in omega (arith, none)) ])

pub returns-clause-made : goal.returns-clause-made
returns-clause-made c =
    showing_makes c.args.instances c.args.endings.items c.args.frames.now.items c.loop-instance.frames.items c.loop-instance.closings.items
    c.loop-instance.invariant
    (elim c.in-None.ensures.steps [ inl first ↦ inl first.1.0 | inr second ↦ inr (let none = second.1.0 in omega (arith, none)) ])
