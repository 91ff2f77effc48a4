use Rattle.std.proofs.Common.{rules}
use Rattle.client_sessions.proofs.transfers.send.Goals as goal

pub returns-clause-counted : goal.returns-clause-counted
returns-clause-counted g c = search rules
