use Rattle.std.proofs.Common.{rules}
use Rattle.client_sessions.proofs.session.Session.switch.Goals as goal

pub returns-clause-answers : goal.returns-clause-answers
returns-clause-answers g c = search rules

pub returns-clause-greatest : goal.returns-clause-greatest
returns-clause-greatest g c = search rules
