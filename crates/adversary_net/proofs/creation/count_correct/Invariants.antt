use Rattle.std.proofs.Common.{◌≡◌, ◌≤◌, length}
use Rattle.adversary_net.specs.Openings.{correct_from}
use Rattle.adversary_net.proofs.creation.count_correct.Given as goal

-- those counted so far
abbrev pub invariant-loop-replica : goal.invariant-loop-replica
invariant-loop-replica l = (l.count ≡ length (correct_from l.liars 0 l.replica)) × (l.count ≤ l.replica)
