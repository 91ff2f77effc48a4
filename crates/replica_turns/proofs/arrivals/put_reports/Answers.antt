use Rattle.std.proofs.Common.{rules}
use Rattle.replica_turns.proofs.arrivals.put_reports.Goals as goal

pub returns : goal.returns
returns c = search rules
