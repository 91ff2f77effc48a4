use Rattle.std.proofs.Common.{rules}
use Rattle.program.proofs.auditing.text_of.Goals as goal

pub returns : goal.returns
returns c = search rules
