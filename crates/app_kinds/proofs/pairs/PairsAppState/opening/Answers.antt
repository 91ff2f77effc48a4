-- Nothing was set before the first block.
use Rattle.std.proofs.Common.{refl, ◌≡◌, [], rules}
use Rattle.ledger_model.specs.Kinds.{store}
use Rattle.app_kinds.proofs.pairs.PairsAppState.opening.Goals as goal

pub returns : goal.returns
unfolding store
returns c = let none : c.new.result.entries ≡ [] = search rules in rw none refl
