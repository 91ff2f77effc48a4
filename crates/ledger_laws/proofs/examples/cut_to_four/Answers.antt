use Rattle.ledger_laws.proofs.Computed.{cut_to_four}
use Rattle.ledger_laws.proofs.examples.cut_to_four.Goals as goal

pub returns : goal.returns
returns c = cut_to_four
