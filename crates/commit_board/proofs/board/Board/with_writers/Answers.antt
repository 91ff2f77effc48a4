use Rattle.std.proofs.Common.{arith}
use Rattle.std.proofs.lemmas.Grind.{elements}
use Rattle.commit_board.proofs.board.Board.with_writers.Goals as goal

pub loop-replica-preserved : goal.loop-replica-preserved
loop-replica-preserved c = grind (arith, elements)
