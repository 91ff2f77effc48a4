use Rattle.std.proofs.Common.{refl, [], ◌∷◌}
use Rattle.http_sessions.specs.Exchanges.{Inquired, Infos}
use Rattle.http_sessions.proofs.Replying.{replied}
use Rattle.http_sessions.proofs.answering.app_info.Goals as goal

pub returns-clause-replies : goal.returns-clause-replies
returns-clause-replies g c = replied _ _ _ _ _ _ (Inquired (Infos c.args.replica c.info-info.result) ∷ []) _
    (c.info-info.new.self, c.info-info.ensures.asked, refl) (refl, c.info_answer.ensures) c.reply_to.ensures
