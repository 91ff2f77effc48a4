-- the replicas so far were asked for their heights, and one of them is the one to choose
use Rattle.std.proofs.Common.{◌≡◌, ◌<◌, ℕ, List}
use Rattle.std.specs.List.{FoldsTo}
use Rattle.http_sessions.specs.Exchanges.{Makes}
use Rattle.http_sessions.specs.Choosing.{IsChosen, exchanges_of_heights}
use Rattle.http_sessions.proofs.choosing.chosen.Given as goal

abbrev pub invariant-loop-number : goal.invariant-loop-number
invariant-loop-number g l = record {
  pairs : List (ℕ × ℕ);
  chosen : IsChosen l.choice l.number pairs l.found l.best;
  made : FoldsTo (Makes g.T.Targets.asks g.T.HttpTargets.inquires) l.fn.targets (exchanges_of_heights pairs) l.targets;
  known : l.found < l.number;
  count : g.T.Targets.replicas l.targets ≡ g.T.Targets.replicas l.fn.targets;
}
