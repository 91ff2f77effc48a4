use Rattle.std.proofs.Common.{rules}
use Rattle.lock_proofs.proofs.table.ends_hold.Goals as goal

pub returns-then-le : goal.returns-then-le
returns-then-le c = search rules
