use Rattle.std.proofs.Common.{rules}
use Rattle.proper_sets.proofs.reported.Absorption.named.Goals as goal

pub returns-then-is_named : goal.returns-then-is_named
returns-then-is_named c = search rules
