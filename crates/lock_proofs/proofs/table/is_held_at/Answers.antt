use Rattle.std.proofs.Common.{arith}
use Rattle.std.proofs.lemmas.Grind.{elements}
use Rattle.lock_proofs.proofs.table.is_held_at.Goals as goal

pub returns : goal.returns
returns c = grind (arith, elements)
