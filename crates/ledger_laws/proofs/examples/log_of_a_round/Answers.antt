use Rattle.ledger_laws.proofs.Computed.{log_of_a_round}
use Rattle.ledger_laws.proofs.examples.log_of_a_round.Goals as goal

pub returns : goal.returns
returns c = log_of_a_round
