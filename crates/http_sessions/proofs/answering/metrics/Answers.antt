use Rattle.std.proofs.Common.{refl, [], ◌∷◌, Some, None}
use Rattle.http_sessions.specs.Exchanges.{Inquired, Shows}
use Rattle.http_sessions.proofs.Replying.{replied}
use Rattle.http_sessions.proofs.answering.metrics.Goals as goal

pub returns-in-Some-clause-replies : goal.returns-in-Some-clause-replies
returns-in-Some-clause-replies g c = replied _ _ _ _ _ _ (Inquired (Shows c.args.replica (Some c.in-Some.metrics)) ∷ []) _
    (c.metrics.new.self, c.in-Some.ensures.asked, refl) (refl, c.in-Some.ensures.replica, refl) c.reply_to.ensures

pub returns-in-None-clause-replies : goal.returns-in-None-clause-replies
returns-in-None-clause-replies g c = replied _ _ _ _ _ _ (Inquired (Shows c.args.replica None) ∷ []) _
    (c.metrics.new.self, c.in-None.ensures.asked, refl) (refl, tt, refl) c.reply_to-in-None.ensures
