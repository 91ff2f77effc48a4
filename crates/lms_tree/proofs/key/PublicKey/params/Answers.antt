use Rattle.std.proofs.Common.{rules}
use Rattle.lms_tree.proofs.key.PublicKey.params.Goals as goal

pub returns : goal.returns
returns c = search rules
