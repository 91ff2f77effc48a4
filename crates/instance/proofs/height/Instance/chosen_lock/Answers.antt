use Rattle.std.proofs.Common.{rules}
use Rattle.instance.proofs.height.Instance.chosen_lock.Goals as goal

pub returns-in_ok-own_lock-in-Some : goal.returns-in_ok-own_lock-in-Some
returns-in_ok-own_lock-in-Some c = search rules
