use Rattle.std.proofs.Common.{arith}
use Rattle.std.proofs.lemmas.Grind.{elements}
use Rattle.key_ring.proofs.ring.KeyRing.key.Goals as goal

pub returns : goal.returns
returns c = grind (arith, elements)
