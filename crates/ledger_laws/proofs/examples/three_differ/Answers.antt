use Rattle.ledger_laws.proofs.Computed.{three_differ}
use Rattle.ledger_laws.proofs.examples.three_differ.Goals as goal

pub returns : goal.returns
returns c = three_differ
