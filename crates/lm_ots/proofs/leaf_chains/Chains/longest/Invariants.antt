-- it is a chain
use Rattle.std.proofs.Common.{◌<◌}
use Rattle.lm_ots.proofs.leaf_chains.Chains.longest.Given as goal

abbrev pub invariant-loop-lane : goal.invariant-loop-lane
invariant-loop-lane l = l.longest < 67
