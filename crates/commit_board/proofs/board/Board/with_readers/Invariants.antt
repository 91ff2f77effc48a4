use Rattle.std.proofs.Common.{◌≡◌, ℕ, ◌<◌, ◌≤◌, Some}
use Rattle.std.specs.Prelude.{slice_get, vec_len, vec_capacity}
use Rattle.commit_board.specs.Seats.{new_reader}
use Rattle.commit_board.proofs.board.Board.with_readers.Given as goal

abbrev pub invariant-loop : goal.invariant-loop
invariant-loop l = record {
  tied : l.maker.table_id ≡ l.initial.maker.table_id;
  count : vec_len l.reading ≡ l.counter;
  room : l.readers ≤ vec_capacity l.reading;
  dealt : (k : ℕ) → k < l.counter → slice_get l.reading.items k ≡ Some (new_reader l.self);
}
