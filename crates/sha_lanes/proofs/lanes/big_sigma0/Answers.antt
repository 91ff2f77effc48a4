use Rattle.std.proofs.Common.{refl}
use Rattle.sha_lanes.proofs.lanes.big_sigma0.Goals as goal

pub returns : goal.returns
returns c j h = rw (
  c.xor.ensures j h,
  c.xor-both.ensures j h,
  c.rotate_right-far.ensures j h,
  c.rotate_right-middle.ensures j h,
  c.rotate_right-near.ensures j h,
) refl
