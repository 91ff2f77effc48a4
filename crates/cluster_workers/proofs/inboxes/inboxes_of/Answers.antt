use Rattle.std.proofs.Common.{◌≡◌, ◌+◌, ◌++◌, ◌∷◌, [], ℕ, length, ap, ◌∙◌, arith}
use Rattle.std.proofs.lemmas.Grind.{common_steps}
use Rattle.std.specs.List.{All}
use Rattle.cluster_workers.specs.RunningClusters.{PeerInbox, peers_from}
use Rattle.cluster_workers.proofs.Peers.{peers_more}
use Rattle.cluster_workers.proofs.inboxes.inboxes_of.Goals as goal

pub loop-to-init : goal.loop-to-init
loop-to-init c = record {
  receivers = c.in_ok-receivers.ensures.len;
  senders = c.in_ok-senders.ensures.count;
  peers = rw c.in_ok-receivers.ensures.items c.in_ok-senders.ensures.none;
}

pub loop-to-preserved : goal.loop-to-preserved
loop-to-preserved c =
    let inboxes = c.loop-to.receivers.items in
    let inbox = c.in_ok-receiver.receiver in
    let peer : PeerInbox = record { replica = c.new.result; inbox = inbox } in
    let count : 0 + length inboxes ≡ c.new.result = omega (arith, c.loop-to.invariant.receivers, c.loop-to.receivers.ok.0, c.new.ensures) in
    let longer : peers_from 0 c.push.new.self.items ≡ peers_from 0 inboxes ++ peer ∷ [] =
    ap (peers_from 0) c.in_ok-push.ensures.items ∙ peers_more 0 inboxes inbox
    ∙ ap (λ (k : ℕ). peers_from 0 inboxes ++ record { replica = k; inbox = inbox } ∷ []) count in
    record {
      receivers = grind (arith, common_steps);
      senders = grind (arith, common_steps);
      peers = rw longer
          (c.in_ok-senders-2.ensures.peers (peers_from 0 inboxes) peer c.loop-to.invariant.peers c.in_ok-receiver.ensures.peers);
    }
