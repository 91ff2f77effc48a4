use Rattle.ledger_laws.proofs.Computed.{lock_sent_on}
use Rattle.ledger_laws.proofs.examples.lock_sent_on.Goals as goal

pub returns : goal.returns
returns c = lock_sent_on
