use Rattle.simulation.proofs.StepLemmas.{goes_on}
use Rattle.simulation.proofs.PlayLemmas.{on_ok, tells_so, tells_exhausted, tells_nothing}
use Rattle.simulation.proofs.simulation.Simulation.tell.Goals as goal

pub returns-in-Signed-clause-done : goal.returns-in-Signed-clause-done
returns-in-Signed-clause-done g c =
    on_ok (tells_so (g.A.Application.meaning) c.args.lie.now c.args.statement c.args.self.now c.inject_and_keep.new.self c.sign.new.self
    c.in-Signed.frame
    c.args.out.now c.inject_and_keep.new.out
    (rw c.in-Signed.is at c.in_ok-frame.ensures.done) c.in_ok-frame.ensures.lies) c.inject_and_keep.result c.inject_and_keep.ensures.done

pub returns-in-Exhausted-clause-done : goal.returns-in-Exhausted-clause-done
returns-in-Exhausted-clause-done g c =
    on_ok (tells_exhausted (g.A.Application.meaning) c.args.lie.now c.args.statement c.args.self.now c.sign.new.self c.args.out.now
    c.add.new.self
    (rw c.in-Exhausted.is at c.in_ok-frame.ensures.done) c.in_ok-frame.ensures.lies)
    c.add.result c.add.ensures

pub returns-in-NoLiar-clause-done : goal.returns-in-NoLiar-clause-done
returns-in-NoLiar-clause-done g c =
    tells_nothing (g.A.Application.meaning) c.args.lie.now c.args.statement c.args.self.now c.sign.new.self c.args.out.now
    (rw c.in-NoLiar.is at c.in_ok-frame.ensures.done) c.in_ok-frame.ensures.lies

pub returns-in-Signed-clause-goes_on : goal.returns-in-Signed-clause-goes_on
returns-in-Signed-clause-goes_on g c = goes_on (g.A.Application.meaning) _ _ _ c.in_ok-frame.ensures.goes_on
    c.inject_and_keep.ensures.goes_on
