use Rattle.ledger_laws.proofs.Computed.{world_runs}
use Rattle.ledger_laws.proofs.examples.world_runs.Goals as goal

pub returns : goal.returns
returns c = world_runs
