-- what the chains so far have left
use Rattle.std.proofs.Common.{◌≡◌, ℕ, ◌<◌, ◌-◌, length, slice_index}
use Rattle.lm_ots.proofs.leaf_chains.Chains.lefts_after.Given as goal

abbrev pub invariant-loop-lane : goal.invariant-loop-lane
invariant-loop-lane l = record {
  many : length l.lefts ≡ 8;
  so : (k : ℕ) → k < l.lane → slice_index l.lefts k ≡ slice_index l.self.left (slice_index l.picks k) - l.count;
}
