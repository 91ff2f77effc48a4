-- all are chains
use Rattle.std.proofs.Common.{◌≡◌, ℕ, ◌<◌, length, slice_index}
use Rattle.lm_ots.proofs.leaf_chains.Chains.doubled.Given as goal

abbrev pub invariant-loop-lane : goal.invariant-loop-lane
invariant-loop-lane l = record {
  many : length l.doubled ≡ 8;
  chains : (k : ℕ) → k < 8 → slice_index l.doubled k < 67;
}
