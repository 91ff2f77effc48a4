-- What the pairs hold.
use Rattle.std.proofs.Common.{◌∙◌, ap, Some}
use Rattle.app_kinds.proofs.Storing.{held-stored}
use Rattle.app_kinds.proofs.pairs.PairsAppState.held.Goals as goal

pub returns-in_ok-from_slice-in-Some : goal.returns-in_ok-from_slice-in-Some
returns-in_ok-from_slice-in-Some c = λ txs e.
    ap Some (c.in_ok-from_slice-in-Some.ensures.items ∙ c.as_slice.ensures.value) ∙ (rw c.in-Some.is at c.get.ensures)
    ∙ held-stored _ _ c.args.key.now e

pub returns-in-None : goal.returns-in-None
returns-in-None c = λ txs e. (rw c.in-None.is at c.get.ensures) ∙ held-stored _ _ c.args.key.now e
