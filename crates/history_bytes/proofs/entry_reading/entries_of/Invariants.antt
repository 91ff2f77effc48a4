use Rattle.std.proofs.Common.{◌≡◌, ◌-◌}
use Rattle.history_bytes.specs.HistoryReading.{entry_list_of}
use Rattle.statements.proofs.Loops.{with_front}
use Rattle.history_bytes.proofs.entry_reading.entries_of.Given as goal

abbrev pub invariant-loop : goal.invariant-loop
invariant-loop l =
    with_front l.entries.items (entry_list_of l.fn.version (l.count - l.counter) l.input) ≡ entry_list_of l.fn.version l.count l.fn.input
