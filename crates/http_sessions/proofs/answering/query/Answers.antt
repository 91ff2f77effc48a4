use Rattle.std.proofs.Common.{refl, [], ◌∷◌}
use Rattle.ledger_model.specs.Sessions.{Queries}
use Rattle.http_sessions.specs.Exchanges.{Asked}
use Rattle.http_sessions.proofs.Replying.{replied}
use Rattle.http_sessions.proofs.answering.query.Goals as goal

pub returns-clause-replies : goal.returns-clause-replies
returns-clause-replies g c = replied _ _ _ _ _ _ (Asked (Queries c.args.replica c.args.key.now c.query-found.result) ∷ []) _
    (c.query-found.new.self, c.query-found.ensures.asked, refl) (refl, refl, c.query_answer.ensures) c.reply_to.ensures
