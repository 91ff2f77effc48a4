use Rattle.std.proofs.Common.{rules}
use Rattle.instance.proofs.height.Instance.release_ending.Goals as goal

pub returns : goal.returns
returns c = search rules
