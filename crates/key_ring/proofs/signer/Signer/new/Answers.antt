use Rattle.std.proofs.Common.{rules}
use Rattle.key_ring.proofs.signer.Signer.new.Goals as goal

pub returns : goal.returns
returns c = search rules
