-- the hashes at the leaves so far stand in their places
use Rattle.std.proofs.Common.{◌≡◌, ℕ, ◌+◌, ◌<◌, [], length, slice_index_or}
use Rattle.ledger_model.specs.Signatures.{leaf_hash}
use Rattle.lms_tree.proofs.nodes.put_leaves.Given as goal

abbrev pub invariant-loop-lane : goal.invariant-loop-lane
invariant-loop-lane l = record {
  many : length l.nodes.items ≡ length l.fn.nodes.items;
  put : (k : ℕ) → k < l.lane → slice_index_or l.nodes.items (l.number + k) []
      ≡ leaf_hash l.identifier (l.number + k) (slice_index_or l.keys k []);
  others : (r : ℕ) → r < l.number → slice_index_or l.nodes.items r [] ≡ slice_index_or l.fn.nodes.items r [];
}
