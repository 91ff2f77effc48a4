use Rattle.std.proofs.Common.{rules}
use Rattle.height_row.proofs.row.HeightRow.may_open.Goals as goal

pub returns-then-committed-number : goal.returns-then-committed-number
returns-then-committed-number c = search rules

pub returns-then-is_some : goal.returns-then-is_some
returns-then-is_some c = search rules

pub returns : goal.returns
returns c = search rules
