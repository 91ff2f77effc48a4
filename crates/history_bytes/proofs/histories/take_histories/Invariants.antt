use Rattle.std.proofs.Common.{◌≡◌, length}
use Rattle.history_bytes.specs.HistoryReading.{histories_reading}
use Rattle.history_bytes.proofs.FileReaders.{with_found}
use Rattle.history_bytes.proofs.histories.take_histories.Given as goal

abbrev pub invariant-loop-version : goal.invariant-loop-version
invariant-loop-version l = with_found l.histories.items (histories_reading l.fn.version l.input) ≡ histories_reading l.fn.version l.fn.input

abbrev pub decreases-loop-version : goal.decreases-loop-version
decreases-loop-version l = length l.input
