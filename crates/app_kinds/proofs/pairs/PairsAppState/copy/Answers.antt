-- The copy has the same bytes.
use Rattle.std.proofs.Common.{◌∙◌, ap}
use Rattle.ledger_model.specs.Kinds.{store_bytes}
use Rattle.app_kinds.proofs.Entries.{shown-clones}
use Rattle.app_kinds.proofs.pairs.PairsAppState.copy.Goals as goal

pub invariant_of-result : goal.invariant_of-result
invariant_of-result c = rw (shown-clones _ _ c.in_ok-clone.ensures.cases) c.self.invariant

pub returns : goal.returns
returns c = ap store_bytes (shown-clones _ _ c.in_ok-clone.ensures.cases ∙ c.self.view_is)
