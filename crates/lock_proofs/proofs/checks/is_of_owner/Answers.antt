use Rattle.std.proofs.Common.{rules}
use Rattle.lock_proofs.proofs.checks.is_of_owner.Goals as goal

pub returns : goal.returns
returns c = search rules
