-- the owners so far have one sender more, the others those that they had; a sender is left for each of the others
use Rattle.std.proofs.Common.{◌≡◌, ◌+◌, ◌++◌, ◌∷◌, [], List, length, vec_len}
use Rattle.std.specs.List.{All}
use Rattle.std.specs.Vec.Iter.{into_iter_items}
use Rattle.cluster_workers.specs.RunningClusters.{PeerInbox}
use Rattle.cluster_workers.proofs.inboxes.with_row.Given as goal

abbrev pub invariant-loop-senders : goal.invariant-loop-senders
invariant-loop-senders l = record {
  count : vec_len l.longer + length (into_iter_items l.senders-iterator) ≡ vec_len l.fn.owners;
  left : length (into_iter_items l.senders-iterator) ≡ length (into_iter_items l.row);
  peers : (peers : List PeerInbox) (peer : PeerInbox)
      → All (λ s. s.items ≡ peers) l.fn.owners.items → All (λ s. s ≡ peer) l.fn.row.items
      → All (λ s. s.items ≡ peers ++ peer ∷ []) l.longer.items
      × All (λ s. s.items ≡ peers) (into_iter_items l.senders-iterator)
      × All (λ s. s ≡ peer) (into_iter_items l.row);
}
