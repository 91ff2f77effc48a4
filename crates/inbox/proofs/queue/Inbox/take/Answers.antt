use Rattle.std.proofs.Common.{rules}
use Rattle.inbox.proofs.queue.Inbox.take.Goals as goal

pub returns-clause-taken : goal.returns-clause-taken
returns-clause-taken g c = search rules

pub returns-clause-same : goal.returns-clause-same
returns-clause-same g c = search rules

pub returns-clause-all : goal.returns-clause-all
returns-clause-all g c = search rules
