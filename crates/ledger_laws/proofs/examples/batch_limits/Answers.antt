use Rattle.ledger_laws.proofs.Computed.{batch_limits}
use Rattle.ledger_laws.proofs.examples.batch_limits.Goals as goal

pub returns : goal.returns
returns c = batch_limits
