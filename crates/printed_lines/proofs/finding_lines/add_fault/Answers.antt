use Rattle.std.proofs.Common.{rules}
use Rattle.printed_lines.proofs.finding_lines.add_fault.Goals as goal

pub returns-in-Unsent : goal.returns-in-Unsent
returns-in-Unsent c = search rules
