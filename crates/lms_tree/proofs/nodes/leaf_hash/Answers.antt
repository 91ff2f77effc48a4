use Rattle.ledger_model.specs.Signatures.{leaf_hash}
use Rattle.lms_tree.proofs.nodes.leaf_hash.Goals as goal

pub returns : goal.returns
unfolding leaf_hash
returns c = c.finalize.ensures _ (c.update.ensures _ c.hasher_at-hasher.ensures)
