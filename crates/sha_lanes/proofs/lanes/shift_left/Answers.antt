use Rattle.std.proofs.Common.{ℕ, ◌*◌, ◌%◌, ◌^◌, ◌∙◌, ap, slice_index, arith}
use Rattle.std.specs.Prelude.{replicate}
use Rattle.std.proofs.lemmas.Simd.{get_or-zip2, get_or-replicate, length-replicate}
use Rattle.sha_lanes.proofs.lanes.shift_left.Goals as goal

pub returns : goal.returns
returns c j h =
    let act : ℕ → ℕ → ℕ = λ (x n : ℕ). x * 2 ^ n % 2 ^ 32 in
    get_or-zip2 act c.args.x (replicate 8 c.args.k) j 0 0 0 (omega (arith, c.fits-x.0)) (omega (arith, length-replicate 8 c.args.k))
    ∙ ap (act (slice_index c.args.x j)) (get_or-replicate 8 j c.args.k 0 h)
