use Rattle.ledger_model.specs.Reading.{positive_at}
use Rattle.std.proofs.Common.{rules}
use Rattle.statements.proofs.fields.take_positive.Goals as goal

pub returns : goal.returns
unfolding positive_at
returns c = search rules
