use Rattle.std.proofs.Common.{arith}
use Rattle.std.proofs.lemmas.Grind.{common_steps}
use Rattle.app_kinds.proofs.pairs.add_piece.Goals as goal

pub returns : goal.returns
returns c = grind (arith, common_steps)
