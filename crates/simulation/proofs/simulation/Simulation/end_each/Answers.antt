use Rattle.std.proofs.Common.{refl, ◌∙◌, arith}
use Rattle.std.proofs.lemmas.Grind.{common_steps}
use Rattle.simulation.proofs.StepLemmas.{stays, goes_on, ended_none}
use Rattle.simulation.proofs.PlayLemmas.{ended_next}
use Rattle.simulation.proofs.simulation.Simulation.end_each.Goals as goal

pub loop-replica-init : goal.loop-replica-init
loop-replica-init g c = (ended_none (g.A.Application.meaning) _ _ _ _, refl, stays (g.A.Application.meaning) _)

pub loop-replica-preserved : goal.loop-replica-preserved
loop-replica-preserved g c =
    let (ended, lies, goes) = c.loop-replica.invariant in (
      ended_next (g.A.Application.meaning) c.args.correct.now _ _ _ c.loop-replica.replica-index c.replica-item.result _ _ _ _ _ _
          c.loop-replica-test.true
          c.replica-item.is ended c.in_ok-end.ensures.done,
      c.in_ok-end.ensures.lies ∙ lies,
      goes_on (g.A.Application.meaning) _ _ _ goes c.in_ok-end.ensures.goes_on,
    )

pub returns-in_err-end-clause-goes_on : goal.returns-in_err-end-clause-goes_on
returns-in_err-end-clause-goes_on g c =
    let (so_far, lies, goes) = c.loop-replica.invariant in
    goes_on (g.A.Application.meaning) _ _ _ goes c.in_err-end.ensures.goes_on

pub returns-clause-done : goal.returns-clause-done
returns-clause-done g c = grind (arith, common_steps)
