use Rattle.ledger_model.proofs.FrameReading.{frames_part}
use Rattle.ledger_laws.proofs.laws.frames_part.Goals as goal

pub returns : goal.returns
returns c = frames_part
