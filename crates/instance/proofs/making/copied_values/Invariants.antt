-- the values of the locks so far
use Rattle.std.proofs.Common.{◌≡◌, take}
use Rattle.lock_proofs.specs.Tables.{values_of}
use Rattle.instance.proofs.making.copied_values.Given as goal

abbrev pub invariant-loop-lock : goal.invariant-loop-lock
invariant-loop-lock l = l.values.items ≡ values_of (take l.lock-index l.locks)
