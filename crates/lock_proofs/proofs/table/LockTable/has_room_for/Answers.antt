use Rattle.std.proofs.Common.{rules}
use Rattle.lock_proofs.proofs.table.LockTable.has_room_for.Goals as goal

pub returns : goal.returns
returns c = search rules
