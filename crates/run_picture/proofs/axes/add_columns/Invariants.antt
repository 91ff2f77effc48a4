-- what was appended, with the rounds that are left, is all rounds
use Rattle.std.proofs.Common.{◌≡◌, ◌++◌, ◌+◌, ◌-◌}
use Rattle.run_picture.specs.Axes.{columns_from}
use Rattle.run_picture.proofs.axes.add_columns.Given as goal

abbrev pub invariant-loop-number : goal.invariant-loop-number
invariant-loop-number l =
    l.out.items ++ columns_from l.layout l.number (l.layout.last + 1 - l.number)
    ≡ l.fn.out.items ++ columns_from l.layout l.layout.first (l.layout.last + 1 - l.layout.first)
