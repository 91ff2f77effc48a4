use Rattle.std.proofs.Common.{rules}
use Rattle.tally.proofs.report_counts.put_value.Goals as goal

pub returns-clause-items : goal.returns-clause-items
returns-clause-items c = search rules
