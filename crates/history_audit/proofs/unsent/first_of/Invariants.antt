-- no entry so far accepts such a statement
use Rattle.std.proofs.Common.{take}
use Rattle.history_audit.specs.Searches.{AreSent}
use Rattle.history_audit.proofs.unsent.first_of.Given as goal

abbrev pub invariant-loop-index : goal.invariant-loop-index
invariant-loop-index l = AreSent l.histories (take l.index l.entries)
