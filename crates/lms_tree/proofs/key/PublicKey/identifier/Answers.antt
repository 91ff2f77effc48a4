use Rattle.std.proofs.Common.{rules}
use Rattle.lms_tree.proofs.key.PublicKey.identifier.Goals as goal

pub returns : goal.returns
returns c = search rules
