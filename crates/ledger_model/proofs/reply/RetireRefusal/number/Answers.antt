use Rattle.std.proofs.Common.{rules}
use Rattle.ledger_model.proofs.reply.RetireRefusal.number.Goals as goal

pub returns-in-NotAbove : goal.returns-in-NotAbove
returns-in-NotAbove c = search rules
