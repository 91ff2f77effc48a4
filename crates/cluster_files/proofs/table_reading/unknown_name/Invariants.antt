use Rattle.std.proofs.Common.{◌≡◌, string_bytes, true}
use Rattle.std.specs.List.{All}
use Rattle.cluster_files.specs.FileTables.{is_file_name}
use Rattle.cluster_files.proofs.table_reading.unknown_name.Given as goal

abbrev pub invariant-loop-name : goal.invariant-loop-name
invariant-loop-name l = All (λ name. is_file_name (string_bytes name.now) ≡ true) l.yielded
