use Rattle.std.proofs.Common.{◌≡◌, map, take, Some}
use Rattle.std.specs.List.{All}
use Rattle.toml.specs.View.{view}
use Rattle.cluster_files.specs.FileTables.{spelled_key}
use Rattle.cluster_setup.specs.KeySizes.{HasSizes}
use Rattle.cluster_files.proofs.key_reading.ring.Given as goal

abbrev pub invariant-loop-replica : goal.invariant-loop-replica
invariant-loop-replica l = record {
  spelled : map Some l.keys.items ≡ take l.replica (map (λ value. spelled_key (view value)) l.items.items);
  sized : All (HasSizes l.params) l.keys.items;
}
