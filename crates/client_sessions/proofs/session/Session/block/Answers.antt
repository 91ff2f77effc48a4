use Rattle.std.proofs.Common.{rules}
use Rattle.client_sessions.proofs.Exchanging.{by_one}
use Rattle.client_sessions.proofs.session.Session.block.Goals as goal

pub returns-in-Ok-Some-clause-answers : goal.returns-in-Ok-Some-clause-answers
returns-in-Ok-Some-clause-answers g c = by_one _ _ _ _ _ _ _ _ _ (rw c.in-Ok-Some.field-0-is at c.in-Ok-Some.ensures.asked) (search rules)

pub returns-in-Ok-None-clause-answers : goal.returns-in-Ok-None-clause-answers
returns-in-Ok-None-clause-answers g c = by_one _ _ _ _ _ _ _ _ _ (rw c.in-Ok-None.field-0-is at c.in-Ok-None.ensures.asked) (search rules)

pub returns-in-Err-clause-answers : goal.returns-in-Err-clause-answers
returns-in-Err-clause-answers g c = by_one _ _ _ _ _ _ _ _ _ c.in-Err.ensures.asked (search rules)
