use Rattle.std.proofs.lemmas.Simd.{get_or-replicate}
use Rattle.sha_lanes.proofs.lanes.splat.Goals as goal

pub returns : goal.returns
returns c j h = get_or-replicate 8 j c.args.x 0 h
