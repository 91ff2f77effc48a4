use Rattle.std.proofs.Common.{rules}
use Rattle.program.proofs.line.Line.of.Goals as goal

pub returns-in-Err : goal.returns-in-Err
returns-in-Err c = search rules
