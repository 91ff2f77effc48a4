-- the seat is of the board
use Rattle.std.proofs.Common.{◌≡◌}
use Rattle.running_tests.proofs.board_thread_tests.follows.Given as goal

abbrev pub invariant-loop : goal.invariant-loop
invariant-loop g l = l.seat.board ≡ l.board
