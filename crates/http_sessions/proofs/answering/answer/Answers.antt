use Rattle.std.proofs.Common.{refl, []}
use Rattle.http_sessions.proofs.Replying.{replied, replied_or_lost}
use Rattle.http_sessions.proofs.answering.answer.Goals as goal

pub returns-in-Err-clause-replies : goal.returns-in-Err-clause-replies
returns-in-Err-clause-replies g c = rw c.in-Err.is
    (replied_or_lost _ _ _ _ _ _ (replied _ _ _ _ _ _ [] _ refl (refl, refl) c.reply_to.ensures))
