use Rattle.std.proofs.Common.{rules}
use Rattle.instance.proofs.height.Instance.is_own_lock.Goals as goal

pub returns-then-is_supporting : goal.returns-then-is_supporting
returns-then-is_supporting c = search rules
