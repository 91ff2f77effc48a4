use Rattle.inbox.proofs.Moves.{takes, behind}
use Rattle.inbox.proofs.queue.Inbox.pop.Goals as goal

pub pop_as-requires-clause-rule : goal.pop_as-requires-clause-rule
pop_as-requires-clause-rule g c = let i = c.pass.invariant in (takes _ _ i.1 i.2, behind _ _ i.1)
