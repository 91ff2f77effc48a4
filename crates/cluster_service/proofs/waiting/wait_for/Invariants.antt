-- the seat stays one of its board, and each block above the height came after the submit
use Rattle.std.proofs.Common.{◌≡◌}
use Rattle.cluster_service.specs.Waiting.{IsPendingAbove}
use Rattle.cluster_service.proofs.waiting.wait_for.Given as goal

abbrev pub invariant-loop-look : goal.invariant-loop-look
invariant-loop-look g l = record {
  board : l.seat.board ≡ l.initial.seat.board;
  pending : IsPendingAbove g.A.Application.meaning l.access.cluster.now l.awaited.replica l.seen.taker l.awaited.tx.now l.awaited.index l.above;
}
