-- what was appended, with the rows that are left, is all rows
use Rattle.std.proofs.Common.{◌≡◌, ◌++◌, ◌-◌}
use Rattle.run_picture.specs.Axes.{axis_rows_from}
use Rattle.run_picture.proofs.axes.add_rows.Given as goal

abbrev pub invariant-loop-number : goal.invariant-loop-number
invariant-loop-number l =
    l.out.items ++ axis_rows_from l.layout l.rounds l.number (l.layout.config.replicas - l.number)
    ≡ l.fn.out.items ++ axis_rows_from l.layout l.rounds 0 l.layout.config.replicas
