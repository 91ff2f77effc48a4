use Rattle.std.proofs.Common.{refl, [], ◌∷◌}
use Rattle.ledger_model.specs.Sessions.{Heights, Blocks}
use Rattle.http_sessions.specs.Exchanges.{Asked}
use Rattle.http_sessions.proofs.Replying.{replied}
use Rattle.http_sessions.proofs.answering.last_block.Goals as goal

pub returns-clause-replies : goal.returns-clause-replies
returns-clause-replies g c = replied _ _ _ _ _ _ (Asked (Heights c.args.replica c.height-last.result)
    ∷ Asked (Blocks c.args.replica c.height-last.result c.block-found.result) ∷ []) _
    (c.height-last.new.self, c.height-last.ensures.asked, (c.block-found.new.self, c.block-found.ensures.asked, refl))
    (refl, refl, refl, c.block_answer.ensures) c.reply_to.ensures
