use Rattle.std.proofs.Common.{rules, sym, ◌∙◌}
use Rattle.client_sessions.proofs.Exchanging.{by_one, query_behind, query_too_long, query_told}
use Rattle.client_sessions.proofs.session.Session.query.Goals as goal

pub returns-in-Err-clause-answers : goal.returns-in-Err-clause-answers
returns-in-Err-clause-answers g c = by_one _ _ _ _ _ _ _ _ _ c.in-Err.ensures.asked (search rules)

pub returns-then-is_behind-clause-answers : goal.returns-then-is_behind-clause-answers
returns-then-is_behind-clause-answers g c =
    query_behind _ _ _ _ _ _ _ _ _ c.in-Ok.ensures.asked (search rules) (sym c.is_behind.ensures ∙ c.if-is_behind.true)

pub returns-then-is_too_long-clause-answers : goal.returns-then-is_too_long-clause-answers
returns-then-is_too_long-clause-answers g c = query_too_long _ _ _ _ _ _ _ _ _ c.in-Ok.ensures.asked (search rules)
    (sym c.is_behind.ensures ∙ c.if-is_behind.false) (sym c.is_too_long.ensures.long ∙ c.if-is_too_long.true)

pub returns-clause-answers : goal.returns-clause-answers
returns-clause-answers g c = query_told _ _ _ _ _ _ _ _ _ _ c.in-Ok.ensures.asked (search rules)
    (sym c.is_behind.ensures ∙ c.if-is_behind.false) (sym c.is_too_long.ensures.long ∙ c.if-is_too_long.false) (search rules)
