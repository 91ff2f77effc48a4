use Rattle.std.proofs.Common.{rules}
use Rattle.signed_frames.proofs.frame.Frame.into_bytes.Goals as goal

pub returns : goal.returns
returns c = search rules
