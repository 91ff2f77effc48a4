use Rattle.std.proofs.Common.{rules}
use Rattle.instance.proofs.height.Instance.unsent_ack.Goals as goal

pub returns : goal.returns
returns c = search rules
