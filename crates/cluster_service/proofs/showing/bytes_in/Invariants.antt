-- what the iterator has left is still to be added
use Rattle.std.proofs.Common.{◌≡◌, ◌+◌, ◌-◌, ◌^◌, ◌≤◌, length, min}
use Rattle.std.specs.List.{sum_by}
use Rattle.cluster_service.proofs.showing.bytes_in.Given as goal

abbrev pub invariant-loop-tx : goal.invariant-loop-tx
invariant-loop-tx l =
    (l.bytes ≤ 2 ^ 64 - 1) × (min (l.bytes + sum_by length l.tx-iterator) (2 ^ 64 - 1) ≡ min (sum_by length l.fn.pool) (2 ^ 64 - 1))
