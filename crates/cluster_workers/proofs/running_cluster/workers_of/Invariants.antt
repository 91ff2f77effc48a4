-- a worker for each number so far, and the seats and the ends of the inboxes for each of the others are left
use Rattle.std.proofs.Common.{◌≡◌, ◌+◌, ◌≤◌, List, length}
use Rattle.std.specs.Arc.{arc_value}
use Rattle.std.specs.List.{All}
use Rattle.std.specs.Vec.Iter.{into_iter_items}
use Rattle.commit_board.specs.Seats.{ReaderSeatView}
use Rattle.inbox.specs.Passes.{InboxId}
use Rattle.cluster_workers.specs.RunningClusters.{peers_from}
use Rattle.cluster_workers.proofs.Peers.{AreLinked}
use Rattle.cluster_workers.proofs.SeatsLeft.{seats_from}
use Rattle.cluster_workers.proofs.running_cluster.workers_of.Given as goal

abbrev pub invariant-loop-number : goal.invariant-loop-number
invariant-loop-number g l = record {
  workers : (inboxes : List InboxId) × ((length inboxes ≡ l.count)
      × All (λ s. s.items ≡ peers_from 0 inboxes) (into_iter_items l.senders)
      × AreLinked (arc_value l.board) l.version l.plan l.number (peers_from 0 inboxes) l.workers.items (into_iter_items l.receivers));
  seats : into_iter_items l.seats ≡ seats_from (arc_value l.board) l.count l.number;
  enough : l.count ≤ length (into_iter_items l.looking) + l.number;
  looking : All (λ (s : ReaderSeatView). s.board ≡ arc_value l.board) (into_iter_items l.looking);
  receivers : length (into_iter_items l.receivers) + l.number ≡ l.count;
  senders : length (into_iter_items l.senders) + l.number ≡ l.count;
}
