use Rattle.std.proofs.Common.{rules}
use Rattle.instance.proofs.height.Instance.is_kept_already.Goals as goal

pub returns-in-Ack : goal.returns-in-Ack
returns-in-Ack c = search rules
