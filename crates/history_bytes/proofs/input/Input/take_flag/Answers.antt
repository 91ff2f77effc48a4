use Rattle.std.proofs.Common.{rules}
use Rattle.ledger_model.specs.Reading.{flag_at}
use Rattle.history_bytes.proofs.input.Input.take_flag.Goals as goal

pub returns-in_default : goal.returns-in_default
unfolding flag_at
returns-in_default c = search rules
