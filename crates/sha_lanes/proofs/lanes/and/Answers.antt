use Rattle.std.proofs.Common.{arith}
use Rattle.std.proofs.lemmas.Simd.{get_or-zip2}
use Rattle.std.specs.Int.Bits.{bit_and}
use Rattle.sha_lanes.proofs.lanes.and.Goals as goal

pub returns : goal.returns
returns c j h = get_or-zip2 bit_and c.args.a c.args.b j 0 0 0 (omega (arith, c.fits-a.0)) (omega (arith, c.fits-b.0))
