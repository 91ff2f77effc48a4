use Rattle.ledger_laws.proofs.StreamEnds.{every_stream_ends}
use Rattle.ledger_laws.proofs.laws.every_stream_ends.Goals as goal

pub returns : goal.returns
returns c = every_stream_ends
