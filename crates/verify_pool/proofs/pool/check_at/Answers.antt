use Rattle.std.proofs.Common.{arith}
use Rattle.std.proofs.lemmas.List.{get_or_default}
use Rattle.verify_pool.proofs.pool.check_at.Goals as goal

pub returns : goal.returns
returns g c = λ part. grind (arith, get_or_default)
