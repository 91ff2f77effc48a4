-- the passes that are left are of this inbox, and the senders so far put into it
use Rattle.std.proofs.Common.{◌≡◌, ◌+◌, length, vec_len}
use Rattle.std.specs.Arc.{arc_value}
use Rattle.std.specs.List.{All}
use Rattle.std.specs.Vec.Iter.{into_iter_items}
use Rattle.inbox.specs.Passes.{PuttingPassView}
use Rattle.cluster_workers.specs.RunningClusters.{PeerInbox}
use Rattle.cluster_workers.proofs.inboxes.new_inbox.Given as goal

abbrev pub invariant-loop-pass : goal.invariant-loop-pass
invariant-loop-pass l = record {
  passes : All (λ (p : PuttingPassView). p.inbox ≡ arc_value l.inbox) (into_iter_items l.pass-iterator);
  count : vec_len l.senders + length (into_iter_items l.pass-iterator) ≡ l.owners;
  peers : All (λ (s : PeerInbox). s ≡ record { replica = l.to; inbox = arc_value l.inbox }) l.senders.items;
}
