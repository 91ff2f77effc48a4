use Rattle.std.proofs.Common.{rules}
use Rattle.lms_speed.proofs.blocks.signature_blocks.Goals as goal

pub returns-clause-signing : goal.returns-clause-signing
returns-clause-signing c = search rules
