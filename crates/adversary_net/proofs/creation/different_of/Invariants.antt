use Rattle.std.proofs.Common.{◌≡◌, ◌+◌, ◌≤◌, drop}
use Rattle.adversary_net.specs.Openings.{different}
use Rattle.adversary_net.proofs.creation.different_of.Given as goal

-- those counted so far, and those to come
abbrev pub invariant-loop-at : goal.invariant-loop-at
invariant-loop-at l = (l.count + different (drop l.at l.replicas) ≡ different l.replicas) × (l.count ≤ l.at)
