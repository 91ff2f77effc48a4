use Rattle.std.proofs.Common.{rules}
use Rattle.history_bytes.specs.HistoryReading.{cause_of}
use Rattle.history_bytes.proofs.refusals.cause_of.Goals as goal

pub returns-in-11 : goal.returns-in-11
unfolding cause_of
returns-in-11 c = search rules
