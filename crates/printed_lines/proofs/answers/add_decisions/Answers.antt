use Rattle.std.proofs.Common.{arith}
use Rattle.std.proofs.lemmas.Grind.{common_steps}
use Rattle.printed_lines.proofs.answers.add_decisions.Goals as goal

pub loop-height-preserved : goal.loop-height-preserved
loop-height-preserved g c = grind (arith, common_steps)

pub returns : goal.returns
returns g c = grind (arith, common_steps)
