use Rattle.std.proofs.Common.{rules}
use Rattle.instance.proofs.height.Instance.may_send_lock.Goals as goal

pub returns-else-not-is_owner : goal.returns-else-not-is_owner
returns-else-not-is_owner c = search rules
