use Rattle.std.proofs.Common.{◌≡◌, ℕ, ◌<◌, ◌≤◌, Some}
use Rattle.std.specs.Prelude.{slice_get, vec_len, vec_capacity, true, false}
use Rattle.commit_board.specs.Seats.{new_writer}
use Rattle.commit_board.proofs.board.Board.with_writers.Given as goal

abbrev pub invariant-loop-replica : goal.invariant-loop-replica
invariant-loop-replica l = record {
  tied : l.maker.table_id ≡ l.initial.maker.table_id;
  makes : l.maker.me.0.makes ≡ true;
  alone : l.maker.me.0.writes ≡ false;
  next : l.maker.me.0.replica ≡ l.replica;
  count : vec_len l.writing ≡ l.replica;
  room : l.replicas ≤ vec_capacity l.writing;
  dealt : (k : ℕ) → k < l.replica → slice_get l.writing.items k ≡ Some (new_writer l.self k);
}
