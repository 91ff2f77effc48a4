use Rattle.std.proofs.Common.{arith}
use Rattle.std.proofs.lemmas.Grind.{elements}
use Rattle.commit_board.proofs.board.Board.with_readers.Goals as goal

pub loop-preserved : goal.loop-preserved
loop-preserved c = grind (arith, elements)
