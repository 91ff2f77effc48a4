-- what was appended, with what the rest shows, is what all entries show
use Rattle.run_picture.proofs.Collecting.{Reaches}
use Rattle.run_picture.proofs.picture.add_entries.Given as goal

abbrev pub invariant-loop-index : goal.invariant-loop-index
invariant-loop-index l = Reaches l.part l.replica l.entries l.fn.shown l.shown l.index l.clock
