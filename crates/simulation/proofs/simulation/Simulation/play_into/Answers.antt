use Rattle.std.proofs.Common.{sym, ◌∙◌}
use Rattle.simulation.proofs.StepLemmas.{plays_step, plays_other}
use Rattle.simulation.proofs.PlayLemmas.{on_ok}
use Rattle.simulation.proofs.simulation.Simulation.play_into.Goals as goal

pub returns-in-Some-clause-done : goal.returns-in-Some-clause-done
returns-in-Some-clause-done g c =
    on_ok (λ done. (
      done.0,
      (
        plays_step (g.A.Application.meaning) c.args.self.now c.play_step.new.self c.args.command.now c.in-Some.step done.0
            (sym c.in_ok-step.ensures ∙ c.in-Some.is) done.1.0,
        done.1.1,
      ),
    ))
    c.play_step.result c.play_step.ensures.done

pub returns-in-None-clause-done : goal.returns-in-None-clause-done
returns-in-None-clause-done g c =
    on_ok (λ done. (
      done.0,
      (
        plays_other (g.A.Application.meaning) c.args.self.now c.play_other.new.self c.args.command.now done.0
            (sym c.in_ok-step.ensures ∙ c.in-None.is) done.1.0,
        done.1.1,
      ),
    ))
    c.play_other.result c.play_other.ensures.done
