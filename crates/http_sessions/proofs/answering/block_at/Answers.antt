use Rattle.std.proofs.Common.{refl, [], ◌∷◌}
use Rattle.ledger_model.specs.Sessions.{Blocks}
use Rattle.http_sessions.specs.Exchanges.{Asked}
use Rattle.http_sessions.proofs.Replying.{replied}
use Rattle.http_sessions.proofs.answering.block_at.Goals as goal

pub returns-clause-replies : goal.returns-clause-replies
returns-clause-replies g c = replied _ _ _ _ _ _ (Asked (Blocks c.args.replica c.args.height c.block-found.result) ∷ []) _
    (c.block-found.new.self, c.block-found.ensures.asked, refl) (refl, refl, c.block_answer.ensures) c.reply_to.ensures
