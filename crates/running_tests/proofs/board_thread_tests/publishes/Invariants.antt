-- the seat is of the board
use Rattle.std.proofs.Common.{◌≡◌}
use Rattle.running_tests.proofs.board_thread_tests.publishes.Given as goal

abbrev pub invariant-loop-height : goal.invariant-loop-height
invariant-loop-height l = l.seat.board ≡ l.board
