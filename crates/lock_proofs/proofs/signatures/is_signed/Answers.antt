use Rattle.std.proofs.Common.{rules}
use Rattle.lock_proofs.proofs.signatures.is_signed.Goals as goal

pub returns : goal.returns
returns c = search rules
