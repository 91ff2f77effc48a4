-- the heights so far, and those of the rows that are left
use Rattle.std.proofs.Common.{◌≡◌, ◌++◌}
use Rattle.replica_core.specs.Facts.{undecided_in}
use Rattle.replica_core.proofs.replay.Replay.undecided_heights.Given as goal

abbrev pub invariant-loop-instance : goal.invariant-loop-instance
invariant-loop-instance g l = l.heights.items ++ undecided_in l.instance-iterator ≡ undecided_in l.self.rows
