use Rattle.ledger_model.proofs.Staying.{commits_grow as grow}
use Rattle.ledger_laws.proofs.laws.commits_grow.Goals as goal

pub returns : goal.returns
returns c = λ meaning config ring id entries more follows. grow meaning config ring id entries more follows
