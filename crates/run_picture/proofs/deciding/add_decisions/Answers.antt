use Rattle.std.proofs.Common.{◌≡◌, ◌++◌, ◌∙◌, ℕ, List, ap, take_all}
use Rattle.std.specs.List.{flat_map}
use Rattle.ledger_model.specs.Commits.{decision_at}
use Rattle.run_picture.specs.Decisions.{mark_if}
use Rattle.run_picture.proofs.Orders.{flat_next}
use Rattle.run_picture.proofs.deciding.add_decisions.Goals as goal

pub loop-height-preserved : goal.loop-height-preserved
loop-height-preserved g c = λ entries matches.
    flat_next (λ h. mark_if c.args.part.now c.args.replica c.args.index c.args.clock h
    (decision_at c.args.replay.now.config c.args.replay.now.id entries h))
    c.args.heights.now c.loop-height.height-index c.height-item.result c.loop-height.out.items c.add_decision.new.out.items
    c.args.out.now.items
    c.loop-height-test.true c.height-item.is (c.loop-height.invariant entries matches)
    (c.in_ok-add_decision.ensures
    ∙ ap (λ o. c.loop-height.out.items ++ mark_if c.args.part.now c.args.replica c.args.index c.args.clock c.height-item.result o)
    (c.decided_at.ensures.decided entries matches))

pub returns : goal.returns
returns g c = λ entries matches.
    c.loop-height.invariant entries matches
    ∙ ap (λ hs. c.args.out.now.items ++ flat_map (λ h. mark_if c.args.part.now c.args.replica c.args.index c.args.clock h
    (decision_at c.args.replay.now.config c.args.replay.now.id entries h)) hs)
    (take_all c.loop-height.height-index c.args.heights.now c.loop-height-test.false)
