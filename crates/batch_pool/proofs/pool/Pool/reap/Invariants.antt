-- what is copied so far is the front of the pool
use Rattle.std.proofs.Common.{◌≡◌, take}
use Rattle.std.specs.Map.{values_of}
use Rattle.batch_pool.proofs.pool.Pool.reap.Given as goal

abbrev pub invariant-loop-index : goal.invariant-loop-index
invariant-loop-index l = l.transactions.items ≡ take l.index (values_of l.self-inside.waiting.entries)
