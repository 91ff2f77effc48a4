use Rattle.std.proofs.Common.{◌∙◌}
use Rattle.lm_ots.proofs.Parts.{from_be_bytes-take}
use Rattle.lm_ots.proofs.hashing.read_u32.Goals as goal

pub returns : goal.returns
returns c = c.from_be_bytes.ensures ∙ from_be_bytes-take c.args.bytes.now
