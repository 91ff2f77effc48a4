use Rattle.std.proofs.Common.{rules}
use Rattle.ledger_model.proofs.order.TxOrd.cmp.Goals as goal

pub returns : goal.returns
returns c = search rules
