use Rattle.std.proofs.Common.{refl, [], arith}
use Rattle.http_sessions.proofs.Replying.{replied}
use Rattle.http_sessions.proofs.answering.answer_if.Goals as goal

pub returns-else-from-count-clause-replies : goal.returns-else-from-count-clause-replies
returns-else-from-count-clause-replies g c = replied _ _ _ _ _ _ [] _ refl
    (record { known = λ below. absurd (omega arith); unknown = λ _. (refl, refl) }) c.reply_to.ensures
