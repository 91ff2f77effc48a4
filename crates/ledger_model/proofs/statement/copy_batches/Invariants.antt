use Rattle.std.proofs.Common.{◌≡◌, take}
use Rattle.ledger_model.proofs.statement.copy_batches.Given as goal

abbrev pub invariant-loop-batch : goal.invariant-loop-batch
invariant-loop-batch l = l.copied.items ≡ take l.batch-index l.batches
