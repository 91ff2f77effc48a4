use Rattle.std.proofs.Common.{arith}
use Rattle.std.proofs.lemmas.Grind.{common_steps}
use Rattle.replica_turns.proofs.Cutting.{take_behind}
use Rattle.replica_turns.proofs.waiting.WaitingFrames.open_round.Goals as goal

pub returns-clause-due : goal.returns-clause-due
returns-clause-due c =
    let joined = take_behind c.self.inside.due.items c.self.inside.early.items 1088 c.self.invariant.0 in
    grind (arith, common_steps, joined)
