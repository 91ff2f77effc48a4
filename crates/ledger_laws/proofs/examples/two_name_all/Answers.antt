use Rattle.ledger_laws.proofs.Computed.{two_name_all}
use Rattle.ledger_laws.proofs.examples.two_name_all.Goals as goal

pub returns : goal.returns
returns c = two_name_all
