-- the lines of the first replicas
use Rattle.std.proofs.Common.{◌≡◌, take}
use Rattle.std.specs.Prelude.{string_bytes}
use Rattle.cluster_service.specs.Lines.{commit_lines}
use Rattle.cluster_service.proofs.lines.commit_lines.Given as goal

abbrev pub invariant-loop-replica : goal.invariant-loop-replica
invariant-loop-replica l = string_bytes l.text ≡ commit_lines 0 (take l.replica-counter l.heights)
