use Rattle.batch_pool.proofs.Entries.{none_twice}
use Rattle.batch_pool.proofs.pool.Pool.len.Goals as goal

pub returns-clause-distinct : goal.returns-clause-distinct
returns-clause-distinct c = rw (← c.self.view_is) (none_twice c.self.inside.waiting.entries (c.self.invariant.1) c.len.ensures.unique)
