use Rattle.std.proofs.Common.{◌≡◌, ◌≤◌, ◌+◌, ◌*◌, ◌∷◌, length, take}
use Rattle.std.specs.List.{flat_map}
use Rattle.statements.proofs.lengths.batch_len.Given as goal

abbrev pub invariant-loop-tx : goal.invariant-loop-tx
invariant-loop-tx l = record {
  len : l.len ≡ 1 + length (flat_map (λ tx. length tx ∷ tx) (take l.tx-index l.transactions));
  bound : l.len ≤ 1 + 65 * l.tx-index;
}
