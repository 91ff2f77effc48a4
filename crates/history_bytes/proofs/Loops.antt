-- Lists of which the readers take a given number, one item after the other.
use Rattle.std.proofs.Common.{refl}
use Rattle.std.specs.Int.{w32}
use Rattle.ledger_model.specs.declared.version.Version.{Version}
use Rattle.ledger_model.specs.Reading.{number_at}
use Rattle.statements.proofs.Loops.{ReadsMany}
use Rattle.history_bytes.specs.HistoryReading.{codes_of, sent_at, frames_of, entry_at, entry_list_of}

pub codes_reads : ReadsMany (number_at w32) codes_of
unfolding codes_of
codes_reads = record { none = λ bytes. refl; more = λ n bytes. refl }

pub frames_reads : (version : Version) → ReadsMany (sent_at version) (frames_of version)
unfolding frames_of
frames_reads version = record { none = λ bytes. refl; more = λ n bytes. refl }

pub entries_reads : (version : Version) → ReadsMany (entry_at version) (entry_list_of version)
unfolding entry_list_of
entries_reads version = record { none = λ bytes. refl; more = λ n bytes. refl }
