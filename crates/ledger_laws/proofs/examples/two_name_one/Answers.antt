use Rattle.ledger_laws.proofs.Computed.{two_name_one}
use Rattle.ledger_laws.proofs.examples.two_name_one.Goals as goal

pub returns : goal.returns
returns c = two_name_one
