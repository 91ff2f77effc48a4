use Rattle.std.proofs.Common.{rules}
use Rattle.ledger_model.proofs.reply.Ignored.text.Goals as goal

pub returns-in-Repeated : goal.returns-in-Repeated
returns-in-Repeated c = search rules
