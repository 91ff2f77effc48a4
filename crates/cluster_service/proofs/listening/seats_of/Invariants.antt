-- seats for the readers so far, with this cluster and these budgets; the readers that are left are of the cluster's board
use Rattle.std.proofs.Common.{◌≡◌, ◌+◌, length, vec_len}
use Rattle.std.specs.List.{All}
use Rattle.std.specs.Vec.Iter.{into_iter_items}
use Rattle.commit_board.specs.Seats.{ReaderSeatView}
use Rattle.cluster_service.proofs.listening.seats_of.Given as goal

abbrev pub invariant-loop-reader : goal.invariant-loop-reader
invariant-loop-reader g l = record {
  count : vec_len l.seats + length (into_iter_items l.reader-iterator) ≡ vec_len l.fn.readers;
  cluster : All (λ s. s.targets.cluster.now ≡ l.cluster) l.seats.items;
  budgets : All (λ s. s.targets.budgets.now ≡ l.budgets) l.seats.items;
  readers : All (λ (r : ReaderSeatView). r.board ≡ l.cluster.board) (into_iter_items l.reader-iterator);
}
