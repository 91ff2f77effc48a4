-- the first histories were written
use Rattle.std.proofs.Common.{take}
use Rattle.std.specs.List.{flat_map}
use Rattle.std.specs.Io.KnownBytes.{Appends}
use Rattle.history_bytes.specs.Histories.{history_bytes}
use Rattle.cluster_service.proofs.saving.write_histories.Given as goal

abbrev pub invariant-loop-history : goal.invariant-loop-history
invariant-loop-history g l = Appends (g.W.Write.contents l.initial.file) (g.W.Write.contents l.file)
    (flat_map history_bytes (take l.history-index l.histories))
