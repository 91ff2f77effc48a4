use Rattle.std.proofs.Common.{rules}
use Rattle.signed_frames.proofs.reader.FrameReader.new_in.Goals as goal

pub returns : goal.returns
returns c = search rules
