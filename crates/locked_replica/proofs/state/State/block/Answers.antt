use Rattle.std.proofs.Common.{rules}
use Rattle.locked_replica.proofs.state.State.block.Goals as goal

pub returns : goal.returns
returns g c = search rules
