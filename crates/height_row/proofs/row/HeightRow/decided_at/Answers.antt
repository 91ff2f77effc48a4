use Rattle.std.proofs.Common.{rules}
use Rattle.height_row.proofs.row.HeightRow.decided_at.Goals as goal

pub returns-clause-row : goal.returns-clause-row
returns-clause-row c = search rules

pub returns-clause-decided : goal.returns-clause-decided
returns-clause-decided c = search rules

pub returns-clause-own : goal.returns-clause-own
returns-clause-own c = search rules
