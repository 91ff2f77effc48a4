use Rattle.std.proofs.Common.{rules}
use Rattle.ledger_model.proofs.config.Config.deciding.Goals as goal

pub returns : goal.returns
returns c = search rules
