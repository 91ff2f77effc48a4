-- One pair is set.
use Rattle.std.proofs.Common.{sym}
use Rattle.app_kinds.proofs.Storing.{code_of-store, state-set}
use Rattle.app_kinds.proofs.pairs.PairsAppState.deliver.Goals as goal

pub returns : goal.returns
returns c = λ txs e. (
  sym (code_of-store _ c.args.tx.now),
  state-set txs c.args.tx.now c.args.self.now c.set.new.self e c.in_ok-set.ensures.ordered
      (rw (← c.key_and_value.ensures.value, ← c.key_and_value.ensures.key) c.in_ok-set.ensures.ok),
)
