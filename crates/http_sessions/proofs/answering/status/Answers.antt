use Rattle.std.proofs.Common.{refl, [], ◌∷◌}
use Rattle.http_sessions.specs.Exchanges.{Inquired, Progresses}
use Rattle.http_sessions.proofs.Replying.{replied}
use Rattle.http_sessions.proofs.answering.status.Goals as goal

pub returns-clause-replies : goal.returns-clause-replies
returns-clause-replies g c = replied _ _ _ _ _ _ (Inquired (Progresses c.args.replica c.progress-progress.result) ∷ []) _
    (c.progress-progress.new.self, c.progress-progress.ensures.asked, refl) (refl, c.status_answer.ensures) c.reply_to.ensures
