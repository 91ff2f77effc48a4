use Rattle.std.proofs.Common.{rules}
use Rattle.replica_turns.proofs.own_events.own_of.Goals as goal

pub returns : goal.returns
returns g c = search rules
