use Rattle.std.proofs.Common.{refl, []}
use Rattle.http_sessions.proofs.Replying.{replied}
use Rattle.http_sessions.proofs.answering.answer_at.Goals as goal

pub returns-in-Page-clause-replies : goal.returns-in-Page-clause-replies
returns-in-Page-clause-replies g c = rw c.in-Page.is (replied _ _ _ _ _ _ [] _ refl (refl, refl) c.reply_to.ensures)

pub returns-in-Health-clause-replies : goal.returns-in-Health-clause-replies
returns-in-Health-clause-replies g c = rw c.in-Health.is (replied _ _ _ _ _ _ [] _ refl (refl, refl) c.reply_to-in-Health.ensures)
