use Rattle.ledger_laws.proofs.Computed.{two_agree}
use Rattle.ledger_laws.proofs.examples.two_agree.Goals as goal

pub returns : goal.returns
returns c = two_agree
