-- an end to take from for each replica so far; each replica has an end to put into those
use Rattle.std.proofs.Common.{◌≡◌, vec_len}
use Rattle.std.specs.List.{All}
use Rattle.cluster_workers.specs.RunningClusters.{peers_from}
use Rattle.cluster_workers.proofs.inboxes.inboxes_of.Given as goal

abbrev pub invariant-loop-to : goal.invariant-loop-to
invariant-loop-to l = record {
  receivers : vec_len l.receivers ≡ l.to;
  senders : vec_len l.senders ≡ l.replicas;
  peers : All (λ s. s.items ≡ peers_from 0 l.receivers.items) l.senders.items;
}
