use Rattle.std.proofs.Common.{rules}
use Rattle.ledger_model.proofs.statement.Report.finds.Goals as goal

pub returns-then-names : goal.returns-then-names
returns-then-names c = search rules

pub returns-else-names : goal.returns-else-names
returns-else-names c = search rules
