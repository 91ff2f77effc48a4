use Rattle.std.proofs.Common.{ℕ, ◌<◌, ◌^◌, slice_index, w32, arith}
use Rattle.std.proofs.lemmas.Simd.{Each1-get_or, below_from_Fits}
use Rattle.sha_lanes.proofs.Rotations.{rotated_three}
use Rattle.sha_lanes.proofs.lanes.big_sigma1.Goals as goal

pub returns : goal.returns
returns c j h =
    let bound : ℕ → Type 0 = λ x. x < 2 ^ 32 in
    let x : ℕ = slice_index c.args.x j in
    let low : x < 2 ^ 32 = Each1-get_or bound c.args.x j 0 (omega (arith, c.fits-x.0)) (below_from_Fits w32 c.args.x c.fits-x.1) in
    rw (
      c.rotate_right-3.ensures j h,
      c.xor-middle.ensures j h,
      c.rotate_right-2.ensures j h,
      c.xor-inner.ensures j h,
      c.rotate_right.ensures j h,
    )
    (rotated_three 32 x 6 5 14 (omega arith) low)
