use Rattle.std.proofs.Common.{rules}
use Rattle.history_log.proofs.reading.unfinished.Goals as goal

pub returns-else-is_torn-clause-torn : goal.returns-else-is_torn-clause-torn
returns-else-is_torn-clause-torn c = search rules
