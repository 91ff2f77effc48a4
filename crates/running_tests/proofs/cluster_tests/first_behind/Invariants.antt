-- the reader's seat is of the cluster's board
use Rattle.std.proofs.Common.{◌≡◌}
use Rattle.running_tests.proofs.cluster_tests.first_behind.Given as goal

abbrev pub invariant-loop-id : goal.invariant-loop-id
invariant-loop-id g l = l.reader.board ≡ l.cluster.board
