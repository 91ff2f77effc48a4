use Rattle.ledger_laws.proofs.Computed.{counter_counts}
use Rattle.ledger_laws.proofs.examples.counter_counts.Goals as goal

pub returns : goal.returns
returns c = counter_counts
