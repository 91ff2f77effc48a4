use Rattle.std.proofs.Common.{ℕ, ◌<◌, ◌^◌, slice_index, w32, arith}
use Rattle.std.proofs.lemmas.Simd.{Each1-get_or, below_from_Fits}
use Rattle.sha_lanes.proofs.ChMaj.{ch_short}
use Rattle.sha_lanes.proofs.lanes.ch.Goals as goal

pub returns : goal.returns
returns c j h =
    let bound : ℕ → Type 0 = λ x. x < 2 ^ 32 in
    let x = Each1-get_or bound c.args.x j 0 (omega (arith, c.fits-x.0)) (below_from_Fits w32 c.args.x c.fits-x.1) in
    let y = Each1-get_or bound c.args.y j 0 (omega (arith, c.fits-y.0)) (below_from_Fits w32 c.args.y c.fits-y.1) in
    let z = Each1-get_or bound c.args.z j 0 (omega (arith, c.fits-z.0)) (below_from_Fits w32 c.args.z c.fits-z.1) in
    rw (c.xor-2.ensures j h, c.and.ensures j h, c.xor.ensures j h)
    (ch_short w32 (slice_index c.args.x j) (slice_index c.args.y j) (slice_index c.args.z j) x y z)
