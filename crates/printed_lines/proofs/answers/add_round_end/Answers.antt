use Rattle.std.proofs.Common.{rules}
use Rattle.printed_lines.proofs.answers.add_round_end.Goals as goal

pub returns : goal.returns
returns g c = search rules
