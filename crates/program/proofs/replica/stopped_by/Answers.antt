use Rattle.std.proofs.Common.{rules}
use Rattle.program.proofs.replica.stopped_by.Goals as goal

pub returns-in-NoMemory : goal.returns-in-NoMemory
returns-in-NoMemory c = search rules
