use Rattle.std.proofs.Common.{◌∙◌}
use Rattle.cluster_service.proofs.showing.progress_of.Goals as goal

pub returns-clause-shown : goal.returns-clause-shown
returns-clause-shown g c = record {
  replay = c.len.ensures.sound.replay;
  rounds = c.clock.ensures;
  height = c.new.ensures ∙ c.height.ensures.height;
}
