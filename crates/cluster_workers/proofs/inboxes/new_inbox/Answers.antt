use Rattle.std.proofs.Common.{◌≡◌, ◌++◌, ◌∷◌, [], refl, rules, arith}
use Rattle.std.proofs.lemmas.Grind.{elements}
use Rattle.std.specs.Arc.{arc_value}
use Rattle.std.specs.Vec.Iter.{into_iter_items}
use Rattle.std.proofs.lemmas.List.Elements.{All-head, All-push, All-tail}
use Rattle.inbox.specs.Passes.{PuttingPassView}
use Rattle.cluster_workers.specs.RunningClusters.{PeerInbox}
use Rattle.cluster_workers.proofs.inboxes.new_inbox.Goals as goal

pub loop-pass-preserved : goal.loop-pass-preserved
loop-pass-preserved c =
    let peer : PeerInbox = record { replica = c.args.to; inbox = arc_value c.in_ok-inbox-2.inbox } in
    let grown : c.push.new.self.items ≡ c.loop-pass.senders.items ++ peer ∷ [] = search rules in
    record {
      passes = All-tail (λ (p : PuttingPassView). p.inbox ≡ arc_value c.in_ok-inbox-2.inbox) c.in-Some.pass (into_iter_items c.next.new.self)
          (rw c.in-Some.ensures.steps.0 at c.loop-pass.invariant.passes);
      count = grind (arith, elements);
      peers = rw grown (All-push (λ (s : PeerInbox). s ≡ peer) c.loop-pass.senders.items peer c.loop-pass.invariant.peers (λ i. peer));
    }

pub loop-pass-init : goal.loop-pass-init
loop-pass-init c = grind (arith, elements)

pub invariant_of-push : goal.invariant_of-push
invariant_of-push c =
    let here = All-head (λ (p : PuttingPassView). p.inbox ≡ arc_value c.in_ok-inbox-2.inbox) c.in-Some.pass (into_iter_items c.next.new.self)
    (rw c.in-Some.ensures.steps.0 at c.loop-pass.invariant.passes) in
    search (rules, here)
