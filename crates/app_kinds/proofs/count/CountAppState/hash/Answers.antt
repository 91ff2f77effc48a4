-- The pieces make the encoding.
use Rattle.std.proofs.Common.{[]}
use Rattle.ledger_model.specs.Kinds.{counter_bytes}
use Rattle.app_kinds.proofs.count.CountAppState.hash.Goals as goal

pub returns : goal.returns
unfolding counter_bytes
returns c = rw (← c.to_be_bytes.ensures) (c.finalize.ensures _ (c.update-2.ensures _ (c.update.ensures [] c.new-hasher.ensures)))
