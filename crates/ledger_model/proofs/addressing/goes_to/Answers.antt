use Rattle.std.proofs.Common.{rules}
use Rattle.ledger_model.proofs.addressing.goes_to.Goals as goal

pub returns-in-All : goal.returns-in-All
returns-in-All c = search rules
