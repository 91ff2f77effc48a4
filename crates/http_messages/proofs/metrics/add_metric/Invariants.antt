-- the samples so far are appended
use Rattle.std.proofs.Common.{◌≡◌, ◌++◌, take}
use Rattle.std.specs.String.{string_bytes}
use Rattle.std.specs.List.{flat_map}
use Rattle.http_messages.specs.Metrics.{sample_text}
use Rattle.http_messages.proofs.metrics.add_metric.Given as goal

abbrev pub invariant-loop-of : goal.invariant-loop-of
invariant-loop-of l = string_bytes l.out ≡ string_bytes l.initial.out ++ flat_map (sample_text l.metric) (take l.of-index l.replicas)
