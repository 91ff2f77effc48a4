use Rattle.std.proofs.Common.{rules}
use Rattle.key_ring.proofs.ring.KeyRing.verifies.Goals as goal

pub returns-in-None : goal.returns-in-None
returns-in-None c = search rules
