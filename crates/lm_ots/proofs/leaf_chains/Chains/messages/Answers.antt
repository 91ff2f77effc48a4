use Rattle.std.proofs.Common.{◌≡◌, ◌<◌, [], length, slice_index, ◌∙◌, arith, length-set}
use Rattle.lm_ots.specs.Ends.{message_of}
use Rattle.lm_ots.proofs.Writes.{set-more}
use Rattle.lm_ots.proofs.leaf_chains.Chains.messages.Goals as goal

pub loop-lane-preserved : goal.loop-lane-preserved
loop-lane-preserved c =
    let lane = c.loop-lane.lane in
    let kept = c.loop-lane.invariant in
    let inside : lane < length c.loop-lane.messages = omega (arith, c.loop-lane-test.true, kept.many) in
    record {
      many = length-set c.loop-lane.messages lane c.message.result ∙ kept.many;
      messages = set-more (λ k message. message ≡ message_of c.args.self.now (slice_index c.args.picks.now k)) c.loop-lane.messages lane
          c.message.result [] inside kept.messages c.message.ensures.message;
      named = λ _. c.message.ensures.named;
    }
