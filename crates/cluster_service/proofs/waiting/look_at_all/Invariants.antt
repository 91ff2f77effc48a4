-- the seat stays one of its board, the height only rises, and no look was at the entries of the replica that took the transaction
use Rattle.std.proofs.Common.{◌≡◌, ◌≤◌}
use Rattle.cluster_service.proofs.waiting.look_at_all.Given as goal

abbrev pub invariant-loop-number : goal.invariant-loop-number
invariant-loop-number g l = record {
  board : l.seat.board ≡ l.initial.seat.board;
  raised : l.initial.above ≤ l.above;
  taker : l.seen.taker ≡ l.initial.seen.taker;
}
