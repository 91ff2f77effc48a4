use Rattle.ledger_laws.proofs.Computed.{frames_read_back}
use Rattle.ledger_laws.proofs.examples.frames_read_back.Goals as goal

pub returns : goal.returns
returns c = frames_read_back
