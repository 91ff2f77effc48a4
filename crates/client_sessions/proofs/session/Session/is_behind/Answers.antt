use Rattle.std.proofs.Common.{rules}
use Rattle.client_sessions.proofs.session.Session.is_behind.Goals as goal

pub returns-else-number-min_height : goal.returns-else-number-min_height
returns-else-number-min_height c = search rules
