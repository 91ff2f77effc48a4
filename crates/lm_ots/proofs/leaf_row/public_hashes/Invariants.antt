-- the public values of the leaves so far
use Rattle.std.proofs.Common.{◌≡◌, ℕ, ◌+◌, ◌<◌, [], length, slice_index_or}
use Rattle.ledger_model.specs.Signatures.{leaf_key}
use Rattle.lm_ots.specs.Parameters.{numbers_of}
use Rattle.lm_ots.proofs.leaf_row.public_hashes.Given as goal

abbrev pub invariant-loop-lane : goal.invariant-loop-lane
invariant-loop-lane l = record {
  many : length l.keys ≡ 8;
  keys : (k : ℕ) → k < l.lane → slice_index_or l.keys k [] ≡ leaf_key (numbers_of l.fn.params) l.identifier l.seed (l.first + k);
}
