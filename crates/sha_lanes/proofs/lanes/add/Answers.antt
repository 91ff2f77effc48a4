use Rattle.std.proofs.Common.{arith}
use Rattle.std.proofs.lemmas.Simd.{get_or-zip2}
use Rattle.sha2.specs.Sha256.{add32}
use Rattle.sha_lanes.proofs.lanes.add.Goals as goal

pub returns : goal.returns
returns c j h = get_or-zip2 add32 c.args.a c.args.b j 0 0 0 (omega (arith, c.fits-a.0)) (omega (arith, c.fits-b.0))
