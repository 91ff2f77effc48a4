use Rattle.std.proofs.Common.{[], ◌∷◌, ◌++◌, ap, ◌∙◌}
use Rattle.std.specs.Int.{w16, w32, to_be_bytes}
use Rattle.sha2.specs.Sha256.{sha256}
use Rattle.ledger_model.specs.Signatures.{randomizer}
use Rattle.lm_ots.proofs.ots.randomizer.Goals as goal

pub returns : goal.returns
unfolding randomizer
returns c =
    c.digest.ensures ∙ ap sha256 c.step_message.ensures.message
    ∙ ap (λ seed. sha256 (c.args.identifier.now ++ to_be_bytes w32 c.args.leaf ++ to_be_bytes w16 0xfffd ++ (255 ∷ []) ++ seed))
    c.as_bytes.ensures.bytes
