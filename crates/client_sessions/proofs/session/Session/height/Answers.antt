use Rattle.std.proofs.Common.{rules, sym, ◌∙◌}
use Rattle.client_sessions.proofs.Exchanging.{height_behind, height_told}
use Rattle.client_sessions.proofs.session.Session.height.Goals as goal

pub returns-then-is_behind-clause-answers : goal.returns-then-is_behind-clause-answers
returns-then-is_behind-clause-answers g c =
    height_behind _ _ _ _ _ _ _ c.height-height.ensures.asked (search rules) (sym c.is_behind.ensures ∙ c.if-is_behind.true)

pub returns-clause-answers : goal.returns-clause-answers
returns-clause-answers g c = height_told _ _ _ _ _ _ _ _ c.height-height.ensures.asked (search rules)
    (sym c.is_behind.ensures ∙ c.if-is_behind.false) (search rules)
