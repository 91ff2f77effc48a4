use Rattle.std.proofs.Common.{rules}
use Rattle.sha_lanes.proofs.digest.words_at.Goals as goal

pub returns : goal.returns
returns c = search rules
