-- what is above here is what is above the leaf
use Rattle.std.proofs.Common.{◌≡◌, ◌-◌}
use Rattle.ledger_model.specs.Signatures.{root_above}
use Rattle.lms_tree.proofs.verification.root_above.Given as goal

abbrev pub invariant-loop-level : goal.invariant-loop-level
invariant-loop-level l =
    root_above l.identifier l.path (l.levels - l.level) l.level l.number l.hash
    ≡ root_above l.identifier l.path l.levels 0 l.leaf_number l.fn.leaf_hash
