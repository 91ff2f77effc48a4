-- the leaves' hashes so far stand at their numbers; then so do those of all nodes from the number on
use Rattle.std.proofs.Common.{◌≡◌, ℕ, ◌+◌, ◌*◌, ◌<◌, [], length, get_or}
use Rattle.ledger_model.specs.Signatures.{node}
use Rattle.lm_ots.specs.Parameters.{numbers_of}
use Rattle.lms_tree.specs.Trees.{KeepsNodes}
use Rattle.lms_tree.proofs.tree.Tree.build.Given as goal

abbrev pub invariant-loop-row : goal.invariant-loop-row
invariant-loop-row l = record {
  long : length l.nodes.items ≡ 2 * l.leaves;
  hashes : (q : ℕ) → q < 8 * l.row
      → get_or l.nodes.items (l.leaves + q) [] ≡ node (numbers_of l.params) l.identifier l.seed 0 (l.leaves + q);
}

abbrev pub invariant-loop-number : goal.invariant-loop-number
invariant-loop-number l = KeepsNodes (numbers_of l.params) l.identifier l.seed l.number l.nodes.items
