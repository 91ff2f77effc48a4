use Rattle.ledger_laws.proofs.Computed.{counter_checks}
use Rattle.ledger_laws.proofs.examples.counter_checks.Goals as goal

pub returns : goal.returns
returns c = counter_checks
