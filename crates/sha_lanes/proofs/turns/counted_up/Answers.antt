use Rattle.std.proofs.Common.{rules}
use Rattle.sha_lanes.proofs.turns.counted_up.Goals as goal

pub returns : goal.returns
returns c = search rules
