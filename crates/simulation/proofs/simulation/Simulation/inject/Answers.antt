use Rattle.simulation.proofs.StepLemmas.{stays}
use Rattle.simulation.proofs.simulation.Simulation.inject.Goals as goal

pub returns-clause-done : goal.returns-clause-done
returns-clause-done g c = rw (c.deref.ensures.value, c.in_ok-receivers.ensures) at c.inject_each.ensures.done

pub returns-in_err-receivers-clause-goes_on : goal.returns-in_err-receivers-clause-goes_on
returns-in_err-receivers-clause-goes_on g c = stays (g.A.Application.meaning) c.args.self.now.cluster
