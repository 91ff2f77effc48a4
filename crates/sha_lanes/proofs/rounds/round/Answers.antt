use Rattle.std.proofs.Common.{refl}
use Rattle.sha_lanes.proofs.rounds.round.Goals as goal

pub returns : goal.returns
returns c j h =
    rw (
      c.add-first.ensures j h,
      c.add-fifth.ensures j h,
      c.add-temp2.ensures j h,
      c.add-temp1.ensures j h,
      c.add-with_constant.ensures j h,
      c.add-with_choice.ensures j h,
      c.add-with_sigma.ensures j h,
      c.splat.ensures j h,
      c.maj-most.ensures j h,
      c.big_sigma0-sigma0.ensures j h,
      c.ch-chosen.ensures j h,
      c.big_sigma1-sigma1.ensures j h,
    ) refl
