use Rattle.ledger_model.specs.Reading.{flag_at}
use Rattle.std.proofs.Common.{rules}
use Rattle.statements.proofs.fields.take_flag.Goals as goal

pub returns-in-1 : goal.returns-in-1
unfolding flag_at
returns-in-1 c = search rules
