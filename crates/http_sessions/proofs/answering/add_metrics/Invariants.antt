-- the first replicas have shown their metrics
use Rattle.std.proofs.Common.{◌≡◌, ◌≤◌, length, map, vec_capacity}
use Rattle.std.specs.List.{FoldsTo, range_with_len}
use Rattle.http_sessions.specs.Exchanges.{Makes}
use Rattle.http_sessions.specs.Answering.{exchanges_of_metrics}
use Rattle.http_sessions.proofs.answering.add_metrics.Given as goal

abbrev pub invariant-loop-number : goal.invariant-loop-number
invariant-loop-number g l = record {
  each : map (λ m. m.replica) l.all.items ≡ range_with_len 0 l.number;
  made : FoldsTo (Makes g.T.Targets.asks g.T.HttpTargets.inquires) l.initial.targets (exchanges_of_metrics l.all.items) l.targets;
  count : g.T.Targets.replicas l.targets ≡ g.T.Targets.replicas l.initial.targets;
  sized : length l.all.items ≡ l.number;
  room : l.count ≤ vec_capacity l.all;
}
