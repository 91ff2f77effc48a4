-- what is left of both gives the same answer
use Rattle.std.proofs.Common.{◌≡◌, drop}
use Rattle.std.specs.Cmp.Lexicographic.{pointwise}
use Rattle.ledger_model.specs.Values.{same_value}
use Rattle.lock_proofs.specs.Tables.{values_of}
use Rattle.instance.proofs.height.Instance.holds_just.Given as goal

abbrev pub invariant-loop-place : goal.invariant-loop-place
invariant-loop-place l = pointwise same_value (drop l.place l.values) (values_of (drop l.place l.held))
    ≡ pointwise same_value l.values (values_of l.held)
