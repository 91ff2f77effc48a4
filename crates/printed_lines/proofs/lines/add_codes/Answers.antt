use Rattle.std.proofs.Common.{arith}
use Rattle.std.proofs.lemmas.Grind.{common_steps}
use Rattle.printed_lines.proofs.lines.add_codes.Goals as goal

pub returns-in_ok-add-in-len1-up : goal.returns-in_ok-add-in-len1-up
returns-in_ok-add-in-len1-up c = grind (arith, common_steps)
