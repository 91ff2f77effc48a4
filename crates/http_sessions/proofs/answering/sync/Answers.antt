use Rattle.std.proofs.Common.{refl, [], ◌∷◌, Ok, Err}
use Rattle.ledger_model.specs.Sessions.{Submits}
use Rattle.http_sessions.specs.Exchanges.{Asked, Inquired, Spreads}
use Rattle.http_sessions.proofs.Replying.{replied}
use Rattle.http_sessions.proofs.answering.sync.Goals as goal

pub returns-in-Ok-Ok-clause-replies : goal.returns-in-Ok-Ok-clause-replies
returns-in-Ok-Ok-clause-replies g c = replied _ _ _ _ _ _ (Asked (Submits c.args.replica c.args.tx.now (Ok (Ok c.in-Ok-Ok.index)))
    ∷ Inquired (Spreads c.args.replica c.args.tx.now) ∷ []) _ (
      c.submit.new.self,
      rw c.in-Ok-Ok.field-0-is at c.in-Ok-Ok.ensures.asked,
      (c.spread.new.self, c.spread.ensures.asked, refl),
    )
    (refl, refl, refl, refl, c.sync_answer.ensures) c.reply_to.ensures

pub returns-in-Ok-Err-clause-replies : goal.returns-in-Ok-Err-clause-replies
returns-in-Ok-Err-clause-replies g c = replied _ _ _ _ _ _ (Asked
    (Submits c.args.replica c.args.tx.now (Ok (Err c.in-Ok-Err.refusal))) ∷ []) _
    (c.submit.new.self, rw c.in-Ok-Err.field-0-is at c.in-Ok-Err.ensures.asked, refl) (refl, refl, c.sync_answer-in-Ok-Err.ensures)
    c.reply_to-in-Ok-Err.ensures

pub returns-in-Err-clause-replies : goal.returns-in-Err-clause-replies
returns-in-Err-clause-replies g c = replied _ _ _ _ _ _ (Asked (Submits c.args.replica c.args.tx.now (Err c.in-Err.fault)) ∷ [])
    _
    (c.submit.new.self, c.in-Err.ensures.asked, refl) (refl, refl, c.fault_answer.ensures) c.reply_to-in-Err.ensures
