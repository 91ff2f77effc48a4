use Rattle.std.proofs.Common.{rules}
use Rattle.height_row.proofs.row.HeightRow.place.Goals as goal

pub returns : goal.returns
returns c = search rules
