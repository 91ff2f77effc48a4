use Rattle.std.proofs.Common.{rules}
use Rattle.replica_turns.proofs.own_events.raised_floor.Goals as goal

pub returns-then-is_committed : goal.returns-then-is_committed
returns-then-is_committed g c = search rules
