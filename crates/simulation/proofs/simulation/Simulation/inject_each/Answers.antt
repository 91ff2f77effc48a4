use Rattle.std.proofs.Common.{refl, ◌∙◌, arith}
use Rattle.std.proofs.lemmas.Grind.{common_steps}
use Rattle.ledger_model.specs.Spelling.{frame_bytes}
use Rattle.printed_lines.specs.Lines.{step_text}
use Rattle.simulation.proofs.StepLemmas.{stays, goes_on, stepped_none}
use Rattle.simulation.proofs.PlayLemmas.{injected_next}
use Rattle.simulation.proofs.simulation.Simulation.inject_each.Goals as goal

pub loop-receiver-init : goal.loop-receiver-init
loop-receiver-init g c = (stepped_none (g.A.Application.meaning) step_text _ _, refl, stays (g.A.Application.meaning) _)

pub loop-receiver-preserved : goal.loop-receiver-preserved
loop-receiver-preserved g c =
    let (stepped, lies, goes) = c.loop-receiver.invariant in (
      injected_next (g.A.Application.meaning) _ _ _ c.args.receivers.now
          (frame_bytes c.args.frame.now) c.loop-receiver.receiver-index c.receiver-item.result _ _ _ _
          c.loop-receiver-test.true c.receiver-item.is stepped (rw c.in_ok-share.ensures at c.in_ok-step.ensures.done),
      c.in_ok-step.ensures.lies ∙ lies,
      goes_on (g.A.Application.meaning) _ _ _ goes c.in_ok-step.ensures.goes_on,
    )

pub returns-in_err-step-clause-goes_on : goal.returns-in_err-step-clause-goes_on
returns-in_err-step-clause-goes_on g c =
    let (so_far, lies, goes) = c.loop-receiver.invariant in
    goes_on (g.A.Application.meaning) _ _ _ goes c.in_err-step.ensures.goes_on

pub returns-clause-done : goal.returns-clause-done
returns-clause-done g c = grind (arith, common_steps)
