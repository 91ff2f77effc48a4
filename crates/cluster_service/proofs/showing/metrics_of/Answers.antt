use Rattle.std.proofs.Common.{◌∙◌}
use Rattle.cluster_service.proofs.showing.metrics_of.Goals as goal

pub returns-clause-shown : goal.returns-clause-shown
returns-clause-shown g c = record {
  replay = c.len.ensures.sound.replay;
  account = c.is_mute.ensures.account;
  own_key = c.id.ensures.own_key;
  rounds = c.clock.ensures;
  height = c.new.ensures ∙ c.height.ensures.height;
  signatures = c.leaves_left.ensures;
  pool = c.waiting.ensures;
  entries = c.len.ensures.len;
  accepted = c.frame_counts.ensures.accepted;
  ignored = c.frame_counts.ensures.ignored;
}
