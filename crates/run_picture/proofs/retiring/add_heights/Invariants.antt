-- what was appended, with the marks of the heights that are left, is the marks of all of them
use Rattle.std.proofs.Common.{◌≡◌, ◌-◌, ◌++◌}
use Rattle.std.specs.List.{range_with_len}
use Rattle.run_picture.specs.Retiring.{retired_marks}
use Rattle.run_picture.proofs.retiring.add_heights.Given as goal

abbrev pub invariant-loop-number : goal.invariant-loop-number
invariant-loop-number l =
    l.out.items ++ retired_marks l.part l.replica l.index l.clock (range_with_len l.number (l.end - l.number))
    ≡ l.fn.out.items ++ retired_marks l.part l.replica l.index l.clock (range_with_len l.first (l.end - l.first))
