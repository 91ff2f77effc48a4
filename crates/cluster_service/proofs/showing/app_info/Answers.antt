use Rattle.std.proofs.Common.{ap, ◌∙◌}
use Rattle.cluster_service.proofs.showing.app_info.Goals as goal

pub returns-clause-reply : goal.returns-clause-reply
returns-clause-reply g c = ap (λ h. record { height = h; hash = c.info-info.result.hash }) c.new.ensures ∙ c.info-info.ensures

pub returns-clause-shown : goal.returns-clause-shown
returns-clause-shown g c = record {
  replay = c.len.ensures.sound.replay;
  kind = ap (λ config. config.kind) c.config.ensures;
  reply = ap (λ h. record { height = h; hash = c.info-info.result.hash }) c.new.ensures ∙ c.info-info.ensures;
}
