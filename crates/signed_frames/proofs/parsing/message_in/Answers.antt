use Rattle.std.proofs.Common.{rules}
use Rattle.signed_frames.proofs.parsing.message_in.Goals as goal

pub returns : goal.returns
returns c = search rules
