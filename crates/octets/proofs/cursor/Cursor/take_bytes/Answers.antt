use Rattle.std.proofs.Common.{rules}
use Rattle.octets.proofs.cursor.Cursor.take_bytes.Goals as goal

pub returns-clause-ok : goal.returns-clause-ok
returns-clause-ok c = search rules

pub returns-clause-rest : goal.returns-clause-rest
returns-clause-rest c = search rules
