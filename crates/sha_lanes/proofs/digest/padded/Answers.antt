use Rattle.std.proofs.Common.{◌∙◌, ap, sym, ◌++◌, refl}
use Rattle.sha_lanes.proofs.Blocks.{filled, padded-one}
use Rattle.sha_lanes.proofs.digest.padded.Goals as goal

pub returns-clause-block : goal.returns-clause-block
returns-clause-block c =
    filled c.args.message.now _ _ _ c.copy_from_slice.ensures.after c.told-message refl
    ∙ ap (λ zs. c.args.message.now ++ zs) c.copy_from_slice-2.ensures.after ∙ sym (padded-one c.args.message.now c.told-message)
