use Rattle.std.proofs.Common.{rules}
use Rattle.instance.proofs.height.Instance.read_ack.Goals as goal

pub returns-clause-answer : goal.returns-clause-answer
returns-clause-answer g c = search rules
