use Rattle.ledger_laws.proofs.Computed.{purse_pays}
use Rattle.ledger_laws.proofs.examples.purse_pays.Goals as goal

pub returns : goal.returns
returns c = purse_pays
