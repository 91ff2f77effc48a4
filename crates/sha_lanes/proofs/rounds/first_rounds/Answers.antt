use Rattle.std.proofs.Common.{refl, ◌∙◌}
use Rattle.sha2.specs.Sha256.{rounds}
use Rattle.sha2.proofs.Schedule256.{IsWindow_first}
use Rattle.sha_lanes.specs.Lanes.{lane, words}
use Rattle.sha_lanes.proofs.LaneLemmas.{word_of}
use Rattle.sha_lanes.proofs.rounds.first_rounds.Goals as goal

pub returns : goal.returns
unfolding rounds
returns c j low b read =
    let h = lane j c.args.state in
    let window = IsWindow_first b (words j c.args.block.now) refl (λ k lt. word_of c.args.block.now j k lt ∙ read k lt) in
    c.first_step.ensures j low b h window (c.first_four_steps-v.ensures j low b h window refl)
