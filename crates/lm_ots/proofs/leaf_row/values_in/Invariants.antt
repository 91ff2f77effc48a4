-- the values of the messages so far
use Rattle.std.proofs.Common.{◌≡◌, ℕ, ◌<◌, [], length, slice_index_or}
use Rattle.lm_ots.specs.Steps.{step_input}
use Rattle.lm_ots.proofs.leaf_row.values_in.Given as goal

abbrev pub invariant-loop-lane : goal.invariant-loop-lane
invariant-loop-lane l = record {
  many : length l.values ≡ 8;
  values : (k : ℕ) → k < l.lane → slice_index_or l.values k [] ≡ step_input (slice_index_or l.messages k []);
}
