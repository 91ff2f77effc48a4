use Rattle.std.proofs.Common.{sym}
use Rattle.command_line.proofs.options.text.Goals as goal

pub returns-in-Some-clause-some : goal.returns-in-Some-clause-some
returns-in-Some-clause-some c = sym c.in-Some.ensures

pub returns-in-None-clause-none : goal.returns-in-None-clause-none
returns-in-None-clause-none c = sym c.in-None.ensures

pub returns-in-None-clause-right : goal.returns-in-None-clause-right
returns-in-None-clause-right c = λ kinds meaning given table has. (has, sym c.in-None.ensures)
