-- No transfer was made before the first block.
use Rattle.std.proofs.Common.{refl}
use Rattle.ledger_model.specs.Kinds.{purse}
use Rattle.app_kinds.proofs.accounts.AccountsAppState.opening.Goals as goal

pub returns : goal.returns
unfolding purse
returns c = refl
