use Rattle.std.proofs.Common.{rules}
use Rattle.ledger_model.proofs.batch.Batch.copy.Goals as goal

pub returns-clause-same : goal.returns-clause-same
returns-clause-same c = search rules
