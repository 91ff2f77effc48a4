use Rattle.std.proofs.Common.{rules}
use Rattle.octets.proofs.cursor.Cursor.len.Goals as goal

pub returns : goal.returns
returns c = search rules
