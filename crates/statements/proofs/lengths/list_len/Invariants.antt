use Rattle.std.proofs.Common.{◌≡◌, ◌≤◌, ◌+◌, ◌*◌, length, take}
use Rattle.std.specs.List.{flat_map}
use Rattle.ledger_model.specs.Values.{value_bytes}
use Rattle.statements.proofs.lengths.list_len.Given as goal

abbrev pub invariant-loop-batch : goal.invariant-loop-batch
invariant-loop-batch l = record {
  len : l.len ≡ 1 + length (flat_map value_bytes (take l.batch-index l.batches));
  bound : l.len ≤ 1 + 4161 * l.batch-index;
}
