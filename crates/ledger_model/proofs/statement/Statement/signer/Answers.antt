use Rattle.std.proofs.Common.{rules}
use Rattle.ledger_model.proofs.statement.Statement.signer.Goals as goal

pub returns-in-Lock : goal.returns-in-Lock
returns-in-Lock c = search rules
