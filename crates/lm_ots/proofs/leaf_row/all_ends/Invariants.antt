-- the ends of the chains so far
use Rattle.std.proofs.Common.{◌≡◌, ℕ, ◌+◌, ◌*◌, ◌<◌, [], length, slice_index_or}
use Rattle.ledger_model.specs.Signatures.{chain, chain_start, last_step}
use Rattle.lm_ots.specs.Parameters.{numbers_of}
use Rattle.lm_ots.proofs.leaf_row.all_ends.Given as goal

abbrev pub invariant-loop-index : goal.invariant-loop-index
invariant-loop-index l = record {
  many : length l.ends ≡ 536;
  ends : (k i : ℕ) → k < 8 → i < l.index → slice_index_or l.ends (67 * k + i) []
      ≡ chain l.identifier (l.first + k) i 0 (last_step (numbers_of l.params)) (chain_start l.identifier l.seed (l.first + k) i);
}
