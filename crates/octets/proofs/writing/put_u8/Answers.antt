use Rattle.std.proofs.Common.{rules}
use Rattle.octets.proofs.writing.put_u8.Goals as goal

pub returns-clause-ok : goal.returns-clause-ok
returns-clause-ok c = search rules
