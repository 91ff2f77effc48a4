-- what is copied so far is the front of the entries
use Rattle.std.proofs.Common.{◌≡◌, take}
use Rattle.locked_replica.specs.StoredEntries.{entries_of}
use Rattle.locked_replica.proofs.snapshot.copy_entries.Given as goal

abbrev pub invariant-loop-entry : goal.invariant-loop-entry
invariant-loop-entry l = l.copies.items ≡ entries_of l.strings (take l.entry-index l.entries)
