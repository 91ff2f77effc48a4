use Rattle.simulation.proofs.PlayLemmas.{steps_so}
use Rattle.simulation.proofs.simulation.Simulation.step.Goals as goal

pub returns-clause-done : goal.returns-clause-done
returns-clause-done g c =
    steps_so (g.A.Application.meaning) c.args.self.now.cluster c.take.new.self.cluster c.args.step.now c.in_ok-answer.answer
    c.in_ok-undecided.undecided.items
    c.args.out.now c.add_answer.new.out
    c.in_ok-answer.ensures.taken (rw c.target.ensures at c.in_ok-undecided.ensures) (rw c.deref.ensures.value at c.in_ok-add_answer.ensures)
