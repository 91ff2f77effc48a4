-- the metrics so far are appended
use Rattle.std.proofs.Common.{◌≡◌, ◌++◌, take}
use Rattle.std.specs.String.{string_bytes}
use Rattle.std.specs.List.{flat_map}
use Rattle.http_messages.specs.Metrics.{metric_text}
use Rattle.http_messages.proofs.metrics.add_metrics.Given as goal

abbrev pub invariant-loop-metric : goal.invariant-loop-metric
invariant-loop-metric l =
    string_bytes l.out ≡ string_bytes l.initial.out
    ++ flat_map (metric_text l.replicas) (take l.metric-index l.metrics)
