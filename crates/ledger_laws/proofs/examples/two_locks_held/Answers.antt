use Rattle.ledger_laws.proofs.Computed.{two_locks_held}
use Rattle.ledger_laws.proofs.examples.two_locks_held.Goals as goal

pub returns : goal.returns
returns c = two_locks_held
