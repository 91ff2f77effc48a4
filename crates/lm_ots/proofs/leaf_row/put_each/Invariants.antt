-- the ends of the leaves so far stand in their places, and the others where they were
use Rattle.std.proofs.Common.{◌≡◌, ◌≢◌, ℕ, ◌+◌, ◌*◌, ◌<◌, [], length, slice_index_or}
use Rattle.lm_ots.proofs.leaf_row.put_each.Given as goal

abbrev pub invariant-loop-lane : goal.invariant-loop-lane
invariant-loop-lane l = record {
  many : length l.ends ≡ 536;
  put : (k : ℕ) → k < l.lane → slice_index_or l.ends (67 * k + l.index) [] ≡ slice_index_or l.values k [];
  others : (k i : ℕ) → k < 8 → i < 67 → i ≢ l.index → slice_index_or l.ends (67 * k + i) [] ≡ slice_index_or l.fn.ends (67 * k + i) [];
}
