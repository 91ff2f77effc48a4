use Rattle.std.proofs.Common.{arith}
use Rattle.std.proofs.lemmas.Grind.{common_steps}
use Rattle.cluster_workers.proofs.turn_taker.TurnTaker.turn.Goals as goal

pub overflow_sub-taken : goal.overflow_sub-taken
overflow_sub-taken g c = grind (arith, common_steps)

pub returns-clause-taken : goal.returns-clause-taken
returns-clause-taken g c = grind (arith, common_steps)
