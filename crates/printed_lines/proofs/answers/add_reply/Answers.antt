use Rattle.std.proofs.Common.{arith}
use Rattle.std.proofs.lemmas.Grind.{common_steps}
use Rattle.printed_lines.proofs.answers.add_reply.Goals as goal

pub returns-in-RoundEnded : goal.returns-in-RoundEnded
returns-in-RoundEnded g c = grind (arith, common_steps)
