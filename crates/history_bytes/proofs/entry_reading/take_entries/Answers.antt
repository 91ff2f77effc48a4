use Rattle.std.proofs.Common.{rules}
use Rattle.history_bytes.specs.HistoryReading.{entry_list_at}
use Rattle.history_bytes.proofs.entry_reading.take_entries.Goals as goal

pub returns-in_err-entries : goal.returns-in_err-entries
unfolding entry_list_at
returns-in_err-entries c = search rules

pub returns : goal.returns
unfolding entry_list_at
returns c = search rules
