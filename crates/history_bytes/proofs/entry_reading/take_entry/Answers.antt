use Rattle.std.proofs.Common.{rules}
use Rattle.history_bytes.specs.HistoryReading.{entry_at}
use Rattle.history_bytes.proofs.entry_reading.take_entry.Goals as goal

pub returns : goal.returns
unfolding entry_at
returns c = search rules
