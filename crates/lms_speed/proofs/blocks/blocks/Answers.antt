use Rattle.std.proofs.Common.{rules}
use Rattle.lms_speed.proofs.blocks.blocks.Goals as goal

pub returns : goal.returns
returns c = search rules
