-- the bytes so far, followed by the hashes beside the nodes from here up, are those from before and the whole path
use Rattle.std.proofs.Common.{◌≡◌, ◌+◌, ◌-◌, ◌^◌, ◌<◌, ◌≤◌, ◌++◌}
use Rattle.ledger_model.specs.Signatures.{path}
use Rattle.lm_ots.specs.Parameters.{numbers_of}
use Rattle.lms_tree.proofs.tree.Tree.append_path.Given as goal

abbrev pub invariant-loop : goal.invariant-loop
invariant-loop l = record {
  whole : l.bytes.items ++ path (numbers_of l.self.params) l.self.identifier l.self.seed (l.levels - l.counter) l.counter l.number
      ≡ l.initial.bytes.items ++ path (numbers_of l.self.params) l.self.identifier l.self.seed l.levels 0 (2 ^ l.levels + l.leaf);
  low : 2 ^ (l.levels - l.counter) ≤ l.number;
  high : l.number < 2 ^ (l.levels - l.counter + 1);
}
