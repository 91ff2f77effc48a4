use Rattle.std.proofs.Common.{refl}
use Rattle.sha2.proofs.Schedule256.{rounds_first}
use Rattle.sha_lanes.proofs.LaneLemmas.{word_of}
use Rattle.sha_lanes.specs.Lanes.{lane, words}
use Rattle.sha_lanes.proofs.rounds.first_step.Goals as goal

pub returns : goal.returns
returns c j low b h window held =
    rounds_first b h (words j c.args.w.now) (lane j c.args.v) c.args.t _ _ _ c.requires window held refl
    (rw (word_of c.args.w.now j c.args.t c.requires) refl) (c.round.ensures j low)
