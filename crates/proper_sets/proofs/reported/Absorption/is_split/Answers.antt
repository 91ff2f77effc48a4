use Rattle.std.proofs.Common.{rules}
use Rattle.proper_sets.proofs.reported.Absorption.is_split.Goals as goal

pub returns-then-known-from : goal.returns-then-known-from
returns-then-known-from c = search rules
