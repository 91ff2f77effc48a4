-- what is kept, with those to come put in, is what all come to
use Rattle.std.proofs.Common.{◌≡◌, [], drop}
use Rattle.replica_turns.specs.Arrivals.{with_each}
use Rattle.replica_turns.proofs.arrivals.each_once.Given as goal

abbrev pub invariant-loop-bytes : goal.invariant-loop-bytes
invariant-loop-bytes l = with_each (drop l.bytes-index l.fn.arrived) l.once.items ≡ with_each l.fn.arrived []
