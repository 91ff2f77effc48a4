use Rattle.std.proofs.Common.{ℕ, ◌<◌, ◌/◌, ◌^◌, bit_xor, slice_index, ap, w32, arith}
use Rattle.std.proofs.lemmas.Simd.{Each1-get_or, below_from_Fits}
use Rattle.sha_lanes.proofs.Rotations.{rotated_two}
use Rattle.sha_lanes.proofs.lanes.small_sigma1.Goals as goal

pub returns : goal.returns
returns c j h =
    let bound : ℕ → Type 0 = λ x. x < 2 ^ 32 in
    let x : ℕ = slice_index c.args.x j in
    let low : x < 2 ^ 32 = Each1-get_or bound c.args.x j 0 (omega (arith, c.fits-x.0)) (below_from_Fits w32 c.args.x c.fits-x.1) in
    rw (c.xor.ensures j h, c.shift_right.ensures j h, c.rotate_right-outer.ensures j h, c.xor-inner.ensures j h, c.rotate_right.ensures j h)
    (ap (λ y. bit_xor y (x / 2 ^ 10)) (rotated_two 32 x 17 2 (omega arith) low))
