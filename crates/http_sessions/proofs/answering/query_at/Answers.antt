use Rattle.std.proofs.Common.{refl, [], ◌∷◌, rules}
use Rattle.ledger_model.specs.Sessions.{Heights, Queries}
use Rattle.http_sessions.specs.Exchanges.{Asked}
use Rattle.http_sessions.proofs.Replying.{replied}
use Rattle.http_sessions.proofs.answering.query_at.Goals as goal

pub returns-then-number-clause-replies : goal.returns-then-number-clause-replies
returns-then-number-clause-replies g c = replied _ _ _ _ _ _ (Asked (Heights c.args.replica c.height-committed.result) ∷ []) _
    (c.height-committed.new.self, c.height-committed.ensures.asked, refl) (refl, search rules, refl) c.reply_to.ensures

pub returns-clause-replies : goal.returns-clause-replies
returns-clause-replies g c = replied _ _ _ _ _ _ (Asked (Heights c.args.replica c.height-committed.result)
    ∷ Asked (Queries c.args.replica c.args.key.now c.query-found.result) ∷ []) _
    (c.height-committed.new.self, c.height-committed.ensures.asked, (c.query-found.new.self, c.query-found.ensures.asked, refl))
    (refl, search rules, refl, refl, c.query_answer_at.ensures) c.reply_to-2.ensures
