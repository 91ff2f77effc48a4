-- the ends are where they were, and the chains so far are there
use Rattle.std.proofs.Common.{◌≡◌, ℕ, ◌<◌, slice_index}
use Rattle.lm_ots.specs.Ends.{end_of}
use Rattle.lm_ots.proofs.leaf_chains.Chains.finish.Given as goal

abbrev pub invariant-loop-index : goal.invariant-loop-index
invariant-loop-index l = record {
  ends : (i : ℕ) → i < 67 → end_of l.self i ≡ end_of l.fn.self i;
  none_left : (i : ℕ) → i < l.index → slice_index l.self.left i ≡ 0;
}
