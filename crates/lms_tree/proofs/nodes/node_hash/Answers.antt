use Rattle.ledger_model.specs.Signatures.{node_hash}
use Rattle.lms_tree.proofs.nodes.node_hash.Goals as goal

pub returns : goal.returns
unfolding node_hash
returns c = c.finalize.ensures _ (c.update-2.ensures _ (c.update.ensures _ c.hasher_at-hasher.ensures))
