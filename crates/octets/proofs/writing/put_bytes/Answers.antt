use Rattle.std.proofs.Common.{rules}
use Rattle.octets.proofs.writing.put_bytes.Goals as goal

pub returns-clause-ok : goal.returns-clause-ok
returns-clause-ok c = search rules
