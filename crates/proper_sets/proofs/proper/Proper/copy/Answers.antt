use Rattle.std.proofs.Common.{rules}
use Rattle.proper_sets.proofs.proper.Proper.copy.Goals as goal

pub returns : goal.returns
returns c = search rules
