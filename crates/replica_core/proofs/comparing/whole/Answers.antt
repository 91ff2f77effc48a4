use Rattle.std.proofs.Common.{arith}
use Rattle.replica_core.proofs.comparing.whole.Goals as goal

pub returns-clause-bytes : goal.returns-clause-bytes
returns-clause-bytes c = λ i. omega (arith, c.type_inv.bytes i)
