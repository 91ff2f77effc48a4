-- No transaction was accepted before the first block.
use Rattle.std.proofs.Common.{refl}
use Rattle.ledger_model.specs.Kinds.{counter}
use Rattle.app_kinds.proofs.count.CountAppState.opening.Goals as goal

pub returns : goal.returns
unfolding counter
returns c = refl
