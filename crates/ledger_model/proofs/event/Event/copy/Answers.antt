use Rattle.std.proofs.Common.{rules}
use Rattle.ledger_model.proofs.event.Event.copy.Goals as goal

pub returns : goal.returns
returns c = search rules
