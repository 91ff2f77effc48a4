use Rattle.ledger_laws.proofs.Computed.{round_entries_replay}
use Rattle.ledger_laws.proofs.examples.round_entries_replay.Goals as goal

pub returns : goal.returns
returns c = round_entries_replay
