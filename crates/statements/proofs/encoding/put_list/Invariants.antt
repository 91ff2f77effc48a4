use Rattle.std.proofs.Common.{◌≡◌, ◌∷◌, ◌++◌, length, take}
use Rattle.std.specs.List.{flat_map}
use Rattle.ledger_model.specs.Values.{value_bytes}
use Rattle.statements.proofs.encoding.put_list.Given as goal

abbrev pub invariant-loop-batch : goal.invariant-loop-batch
invariant-loop-batch l = l.out.items ≡ l.fn.out.items ++ length l.batches ∷ flat_map value_bytes (take l.batch-index l.batches)
