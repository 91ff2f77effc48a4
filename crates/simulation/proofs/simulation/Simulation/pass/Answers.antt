use Rattle.std.proofs.Common.{sym, ◌∙◌}
use Rattle.simulation.proofs.PlayLemmas.{on_ok, passes_aloud}
use Rattle.simulation.proofs.simulation.Simulation.pass.Goals as goal

pub returns-clause-done : goal.returns-clause-done
returns-clause-done g c =
    on_ok (λ is. (
      c.in_ok-answer.answer,
      passes_aloud (g.A.Application.meaning) c.args.self.now.cluster c.take.new.self.cluster c.args.step.now c.in_ok-answer.answer
          c.in_ok-undecided.undecided.items
          c.args.out.now c.add_answer.new.out
          c.in_ok-answer.ensures.taken (sym c.is_accepted.ensures ∙ c.if-is_accepted.false)
          (rw c.target.ensures at c.in_ok-undecided.ensures) (rw c.deref.ensures.value at is),
    )) c.add_answer.result c.add_answer.ensures
