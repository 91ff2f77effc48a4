use Rattle.std.proofs.Common.{rules}
use Rattle.program.proofs.reading.read_piece.Goals as goal

pub returns-then-ne-clause-fault : goal.returns-then-ne-clause-fault
returns-then-ne-clause-fault g c = search rules
