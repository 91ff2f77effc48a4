use Rattle.std.proofs.Common.{refl}
use Rattle.simulation.specs.Playing.{correct_in}
use Rattle.simulation.proofs.StepLemmas.{goes_on}
use Rattle.simulation.proofs.PlayLemmas.{on_ok, round_so}
use Rattle.simulation.proofs.simulation.Simulation.play_round.Goals as goal

pub returns-clause-done : goal.returns-clause-done
returns-clause-done g c =
    on_ok (λ passed. round_so (g.A.Application.meaning) c.args.self.now.cluster c.end_all.new.self.cluster c.pass_each.new.self.cluster
    c.args.out.now
    c.end_all.new.out c.pass_each.new.out
    (correct_in c.args.self.now.cluster) c.new-passes.result.items c.end_all.new.passes.items c.new-passes.ensures.items refl
    c.in_ok-end_all.ensures.done (rw c.deref.ensures.value at passed)) c.pass_each.result c.pass_each.ensures.done

pub returns-clause-goes_on : goal.returns-clause-goes_on
returns-clause-goes_on g c = goes_on (g.A.Application.meaning) _ _ _ c.in_ok-end_all.ensures.goes_on c.pass_each.ensures.goes_on
