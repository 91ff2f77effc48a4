use Rattle.std.proofs.Common.{rules}
use Rattle.program.proofs.statement.statement.Goals as goal

pub returns-in_ok-vec-in-Report-clause-said : goal.returns-in_ok-vec-in-Report-clause-said
returns-in_ok-vec-in-Report-clause-said c = search rules
