use Rattle.inbox.proofs.Moves.{forks}
use Rattle.inbox.proofs.queue.Inbox.next_pass.Goals as goal

pub another-seat-requires-clause-rule : goal.another-seat-requires-clause-rule
another-seat-requires-clause-rule c = let i = c.taking.invariant in forks _ _ i.1 i.2
