use Rattle.std.proofs.Common.{rules}
use Rattle.signed_frames.proofs.frame.Frame.as_bytes.Goals as goal

pub returns : goal.returns
returns c = search rules
