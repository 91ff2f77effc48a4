use Rattle.std.proofs.Common.{rules}
use Rattle.lms_speed.proofs.blocks.key_generation_blocks.Goals as goal

pub returns : goal.returns
returns c = search rules
