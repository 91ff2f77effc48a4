use Rattle.std.proofs.Common.{rules}
use Rattle.simulation.proofs.simulation.Simulation.play_other.Goals as goal

pub returns-in-LieStale-clause-done : goal.returns-in-LieStale-clause-done
returns-in-LieStale-clause-done g c = search rules
