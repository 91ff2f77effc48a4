use Rattle.std.proofs.Common.{rules}
use Rattle.ledger_model.proofs.ledger.Ledger.append.Goals as goal

pub returns-clause-ok : goal.returns-clause-ok
returns-clause-ok c = search rules
