use Rattle.std.proofs.Common.{◌≡◌, ap}
use Rattle.simulation.proofs.PlayLemmas.{on_ok, ends_so}
use Rattle.simulation.proofs.simulation.Simulation.end.Goals as goal

pub returns-clause-done : goal.returns-clause-done
returns-clause-done g c =
    let same : c.self.inside.world ≡ c.args.self.now.cluster = ap (λ s. s.cluster) c.self.view_is in
    on_ok (λ is. ends_so (g.A.Application.meaning) c.args.correct.now c.args.self.now.cluster c.step.new.self.cluster c.args.replica
    c.in_ok-answer.answer
    c.args.out.now c.step.new.out
    c.args.passes.now.items c.add_passes.new.passes.items c.frames_sent-before.result c.in_ok-answer.ensures.done
    (rw same at c.frames_sent-before.ensures.count) is) c.add_passes.result c.add_passes.ensures
