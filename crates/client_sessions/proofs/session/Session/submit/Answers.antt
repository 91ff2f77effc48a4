use Rattle.std.proofs.Common.{rules}
use Rattle.client_sessions.proofs.Exchanging.{by_one}
use Rattle.client_sessions.proofs.session.Session.submit.Goals as goal

pub returns-in-Ok-Ok-clause-answers : goal.returns-in-Ok-Ok-clause-answers
returns-in-Ok-Ok-clause-answers g c = by_one _ _ _ _ _ _ _ _ _ (rw c.in-Ok-Ok.field-0-is at c.in-Ok-Ok.ensures.asked) (search rules)

pub returns-in-Ok-Err-clause-answers : goal.returns-in-Ok-Err-clause-answers
returns-in-Ok-Err-clause-answers g c = by_one _ _ _ _ _ _ _ _ _ (rw c.in-Ok-Err.field-0-is at c.in-Ok-Err.ensures.asked) (search rules)

pub returns-in-Err-clause-answers : goal.returns-in-Err-clause-answers
returns-in-Err-clause-answers g c = by_one _ _ _ _ _ _ _ _ _ c.in-Err.ensures.asked (search rules)
