use Rattle.std.proofs.Common.{rules}
use Rattle.locked_replica.proofs.state.State.history.Goals as goal

pub returns-clause-history : goal.returns-clause-history
returns-clause-history g c = search rules
