use Rattle.std.proofs.Common.{rules}
use Rattle.program.proofs.running.text_status.Goals as goal

pub returns-in-BadLine : goal.returns-in-BadLine
returns-in-BadLine c = search rules
