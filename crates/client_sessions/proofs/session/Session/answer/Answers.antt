use Rattle.std.proofs.Common.{rules}
use Rattle.client_sessions.proofs.session.Session.answer.Goals as goal

pub returns-in-Submit-clause-answers : goal.returns-in-Submit-clause-answers
returns-in-Submit-clause-answers g c = search rules
