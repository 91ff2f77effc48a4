use Rattle.ledger_laws.proofs.Computed.{first_entries_replay}
use Rattle.ledger_laws.proofs.examples.first_entries_replay.Goals as goal

pub returns : goal.returns
returns c = first_entries_replay
