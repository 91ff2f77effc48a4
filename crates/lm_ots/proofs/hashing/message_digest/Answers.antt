use Rattle.ledger_model.specs.Signatures.{message_digest}
use Rattle.lm_ots.proofs.hashing.message_digest.Goals as goal

pub returns : goal.returns
unfolding message_digest
returns c = c.finalize.ensures _ (c.update-2.ensures _ (c.update.ensures _ c.hasher_at-hasher.ensures))
