use Rattle.std.proofs.Common.{◌≡◌, take}
use Rattle.std.specs.List.{All}
use Rattle.toml.specs.View.{items_view}
use Rattle.cluster_files.specs.FileTables.{keys_data}
use Rattle.cluster_files.specs.KeyBytes.{Is56Bytes}
use Rattle.cluster_files.proofs.writing.keys.Given as goal

abbrev pub invariant-loop-replica : goal.invariant-loop-replica
invariant-loop-replica l = record {
  written : items_view l.keys.items ≡ keys_data (take l.replica l.cluster.ring);
  bytes : All Is56Bytes (take l.replica l.cluster.ring);
}
