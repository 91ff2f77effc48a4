use Rattle.std.proofs.Common.{rules}
use Rattle.simulation.proofs.said.lock_of.Goals as goal

pub returns-clause-lock : goal.returns-clause-lock
returns-clause-lock c = search rules

pub returns-clause-spelled : goal.returns-clause-spelled
returns-clause-spelled c = search rules
