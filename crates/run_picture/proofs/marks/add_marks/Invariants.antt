-- what was appended, with the marks that are left, is all marks
use Rattle.std.proofs.Common.{◌≡◌, ◌++◌, ◌<◌, drop}
use Rattle.run_picture.specs.Marks.{marks_from}
use Rattle.std.specs.Prelude.{None}
use Rattle.run_picture.proofs.marks.add_marks.Given as goal

abbrev pub invariant-loop-mark : goal.invariant-loop-mark
invariant-loop-mark l =
    (l.place < 8)
    × (l.out.items ++ marks_from l.layout l.before l.place (drop l.mark-index l.marks) ≡ l.fn.out.items
    ++ marks_from l.layout None 0 l.marks)
