-- no chain so far has fewer steps left
use Rattle.std.proofs.Common.{ℕ, ◌<◌, ◌≤◌, slice_index}
use Rattle.lm_ots.proofs.leaf_chains.Chains.least_left.Given as goal

abbrev pub invariant-loop-lane : goal.invariant-loop-lane
invariant-loop-lane l = (k : ℕ) → k < l.lane → l.least ≤ slice_index l.self.left (slice_index l.picks k)
