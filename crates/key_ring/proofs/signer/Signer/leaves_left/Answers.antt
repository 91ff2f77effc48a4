use Rattle.std.proofs.Common.{rules}
use Rattle.key_ring.proofs.signer.Signer.leaves_left.Goals as goal

pub returns : goal.returns
returns c = search rules
