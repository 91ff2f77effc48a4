-- the keys are the same
use Rattle.std.proofs.Common.{◌≡◌}
use Rattle.replica_tests.proofs.following.takes_all.Given as goal

abbrev pub invariant-loop-entry : goal.invariant-loop-entry
invariant-loop-entry g l = l.follower.replay.ring ≡ l.initial.follower.replay.ring
