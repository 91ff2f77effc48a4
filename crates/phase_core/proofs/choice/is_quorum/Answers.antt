use Rattle.std.proofs.Common.{rules}
use Rattle.phase_core.proofs.choice.is_quorum.Goals as goal

pub returns : goal.returns
returns c = search rules
