use Rattle.std.proofs.Common.{refl, ◌∙◌, arith}
use Rattle.std.proofs.lemmas.Grind.{common_steps}
use Rattle.simulation.specs.Playing.{pass_text}
use Rattle.simulation.proofs.StepLemmas.{stays, goes_on, stepped_none}
use Rattle.simulation.proofs.PlayLemmas.{stepped_next}
use Rattle.simulation.proofs.simulation.Simulation.pass_each.Goals as goal

pub loop-step-init : goal.loop-step-init
loop-step-init g c = (stepped_none (g.A.Application.meaning) pass_text _ _, refl, stays (g.A.Application.meaning) _)

pub loop-step-preserved : goal.loop-step-preserved
loop-step-preserved g c =
    let (stepped, lies, goes) = c.loop-step.invariant in (
      stepped_next (g.A.Application.meaning) pass_text _ _ _ c.args.passes.now c.loop-step.step-index c.step-item.result _ _ _ _
          c.loop-step-test.true c.step-item.is
          stepped c.in_ok-pass.ensures.done.1,
      c.in_ok-pass.ensures.lies ∙ lies,
      goes_on (g.A.Application.meaning) _ _ _ goes c.in_ok-pass.ensures.goes_on,
    )

pub returns-in_err-pass-clause-goes_on : goal.returns-in_err-pass-clause-goes_on
returns-in_err-pass-clause-goes_on g c =
    let (so_far, lies, goes) = c.loop-step.invariant in
    goes_on (g.A.Application.meaning) _ _ _ goes c.in_err-pass.ensures.goes_on

pub returns-clause-done : goal.returns-clause-done
returns-clause-done g c = grind (arith, common_steps)
