-- the ends are where they were, and the chains so far have fewer steps left
use Rattle.std.proofs.Common.{◌≡◌, ◌≤◌, ◌-◌, ℕ, ◌<◌, slice_index}
use Rattle.lm_ots.specs.Ends.{end_of}
use Rattle.lm_ots.proofs.leaf_chains.Chains.turn.Given as goal

abbrev pub invariant-loop-lane : goal.invariant-loop-lane
invariant-loop-lane l = record {
  identifier : l.self.identifier ≡ l.fn.self.identifier;
  leaf : l.self.leaf ≡ l.fn.self.leaf;
  ends : (i : ℕ) → i < 67 → end_of l.self i ≡ end_of l.fn.self i;
  taken : (k : ℕ) → k < l.lane → slice_index l.self.left (slice_index l.picks k)
      ≡ slice_index l.fn.self.left (slice_index l.picks k) - l.count;
  fewer : (i : ℕ) → i < 67 → slice_index l.self.left i ≤ slice_index l.fn.self.left i;
}
