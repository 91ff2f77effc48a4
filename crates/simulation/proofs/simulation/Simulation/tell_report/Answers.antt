use Rattle.simulation.proofs.PlayLemmas.{on_ok}
use Rattle.simulation.proofs.simulation.Simulation.tell_report.Goals as goal

pub returns-clause-done : goal.returns-clause-done
returns-clause-done g c = on_ok (λ told. rw c.in_ok-report.ensures.report at told) c.tell.result c.tell.ensures.done
