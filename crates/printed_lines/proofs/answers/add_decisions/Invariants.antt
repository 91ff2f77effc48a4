-- the lines of the heights so far are added
use Rattle.std.proofs.Common.{◌≡◌, ◌++◌, take}
use Rattle.printed_lines.specs.Lines.{decided_lines}
use Rattle.printed_lines.proofs.answers.add_decisions.Given as goal

abbrev pub invariant-loop-height : goal.invariant-loop-height
invariant-loop-height g l = l.out ≡ l.fn.out ++ decided_lines l.state.config l.state.id (take l.height-index l.undecided) l.state.entries
