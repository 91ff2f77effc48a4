-- as many lists as owners so far, all empty
use Rattle.std.proofs.Common.{◌≡◌, [], vec_len}
use Rattle.std.specs.List.{All}
use Rattle.cluster_workers.proofs.inboxes.no_senders.Given as goal

abbrev pub invariant-loop-owner : goal.invariant-loop-owner
invariant-loop-owner l = record {
  count : vec_len l.senders ≡ l._owner;
  none : All (λ s. s.items ≡ []) l.senders.items;
}
