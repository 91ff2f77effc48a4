use Rattle.std.proofs.Common.{rules}
use Rattle.locked_replica.proofs.state.store.Goals as goal

pub returns : goal.returns
returns c = search rules
