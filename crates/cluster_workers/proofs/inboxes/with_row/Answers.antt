use Rattle.std.proofs.Common.{◌≡◌, ◌++◌, ◌∷◌, [], List, ap, ◌∙◌, arith}
use Rattle.std.proofs.lemmas.Grind.{common_steps}
use Rattle.std.proofs.lemmas.List.Elements.{All-head, All-push, All-tail}
use Rattle.std.specs.Vec.Iter.{into_iter_items}
use Rattle.cluster_workers.specs.RunningClusters.{PeerInbox}
use Rattle.cluster_workers.proofs.inboxes.with_row.Goals as goal

pub loop-senders-preserved : goal.loop-senders-preserved
loop-senders-preserved c = record {
  count = grind (arith, common_steps);
  left = grind (arith, common_steps);
  peers = λ peers peer before row.
      let was = c.loop-senders.invariant.peers peers peer before row in
      let owners = rw c.in-Some.ensures.steps.0 at was.1 in
      let senders = rw c.in-Some-next.ensures.cases.0 at was.2 in
      let had : c.in-Some.senders.items ≡ peers =
      All-head (λ s. s.items ≡ peers) c.in-Some.senders (into_iter_items c.next.new.self) owners in
      let one : c.in-Some-next.sender ≡ peer =
      All-head (λ (s : PeerInbox). s ≡ peer) c.in-Some-next.sender (into_iter_items c.next-in-loop-senders.new.self) senders in
      let has : c.push.new.self.items ≡ peers ++ peer ∷ [] =
      c.in_ok-push.ensures.items ∙ ap (λ (l : List PeerInbox). l ++ c.in-Some-next.sender ∷ []) had
      ∙ ap (λ (p : PeerInbox). peers ++ p ∷ []) one in (
        rw c.in_ok-push-2.ensures.items
            (All-push (λ s. s.items ≡ peers ++ peer ∷ []) c.loop-senders.longer.items c.push.new.self was.0 has),
        All-tail (λ s. s.items ≡ peers) c.in-Some.senders (into_iter_items c.next.new.self) owners,
        All-tail (λ (s : PeerInbox). s ≡ peer) c.in-Some-next.sender (into_iter_items c.next-in-loop-senders.new.self) senders,
      );
}

pub returns-clause-peers : goal.returns-clause-peers
returns-clause-peers c = λ peers peer before row. (c.loop-senders.invariant.peers peers peer before row).0
