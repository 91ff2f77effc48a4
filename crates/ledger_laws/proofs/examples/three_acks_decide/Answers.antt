use Rattle.ledger_laws.proofs.Computed.{three_acks_decide}
use Rattle.ledger_laws.proofs.examples.three_acks_decide.Goals as goal

pub returns : goal.returns
returns c = three_acks_decide
