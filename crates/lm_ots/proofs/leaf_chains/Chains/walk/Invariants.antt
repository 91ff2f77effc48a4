-- the ends are where they were
use Rattle.std.proofs.Common.{◌≡◌, ℕ, ◌<◌, slice_index}
use Rattle.lm_ots.specs.Ends.{end_of}
use Rattle.lm_ots.proofs.leaf_chains.Chains.walk.Given as goal

abbrev pub invariant-loop-turn : goal.invariant-loop-turn
invariant-loop-turn l = record {
  ends : (i : ℕ) → i < 67 → end_of l.self i ≡ end_of l.fn.self i;
  picks : (k : ℕ) → k < 8 → slice_index l.picks k < 67;
}
