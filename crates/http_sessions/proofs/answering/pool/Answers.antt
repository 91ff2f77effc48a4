use Rattle.std.proofs.Common.{refl, [], ◌∷◌}
use Rattle.http_sessions.specs.Exchanges.{Inquired, Pools}
use Rattle.http_sessions.proofs.Replying.{replied}
use Rattle.http_sessions.proofs.answering.pool.Goals as goal

pub returns-clause-replies : goal.returns-clause-replies
returns-clause-replies g c = replied _ _ _ _ _ _ (Inquired (Pools c.args.replica c.pool-size.result) ∷ []) _
    (c.pool-size.new.self, c.pool-size.ensures.asked, refl) (refl, c.pool_answer.ensures) c.reply_to.ensures
