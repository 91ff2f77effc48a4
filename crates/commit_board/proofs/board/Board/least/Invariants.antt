-- each replica so far was read, and the least height is the least that was read, or the greatest number if none was
use Rattle.std.proofs.Common.{◌≡◌, ℕ, ◌<◌, ◌≤◌, ◌-◌, ◌^◌, List, map}
use Rattle.std.specs.List.{All, Contains}
use Rattle.commit_board.specs.Seats.{ReadsInOrder}
use Rattle.commit_board.proofs.board.Board.least.Given as goal

abbrev pub invariant-loop-replica : goal.invariant-loop-replica
invariant-loop-replica l = record {
  reads : List (ℕ × ℕ);
  in_order : ReadsInOrder l.initial.seat l.seat l.replica reads;
  below : All (λ (p : ℕ × ℕ). l.least ≤ p.1) reads;
  one : 0 < l.replica → Contains (map (λ (p : ℕ × ℕ). p.1) reads) l.least;
  none : l.replica ≡ 0 → l.least ≡ 2 ^ 32 - 1;
}
