use Rattle.ledger_laws.proofs.Ledgers.{one_ledger as ledger}
use Rattle.ledger_laws.proofs.laws.one_ledger.Goals as goal

pub returns : goal.returns
returns c = λ meaning config ring histories correct backed. ledger meaning config ring histories correct backed
