-- what the table gained so far, with what it gains from the rest, is what it gains from all entries
use Rattle.std.proofs.Common.{◌<◌, drop}
use Rattle.history_audit.proofs.Tables.{Reaches}
use Rattle.history_audit.proofs.sending.add_entries.Given as goal

abbrev pub invariant-loop-entry : goal.invariant-loop-entry
invariant-loop-entry l = (l.clock < 4) × Reaches l.fn.table l.replica l.entries l.table l.clock (drop l.entry-index l.entries)
