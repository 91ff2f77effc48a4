-- what the histories of the replicas so far show was collected, and there is an application for each of the others
use Rattle.std.proofs.Common.{◌≡◌, ◌+◌, ◌≤◌, []}
use Rattle.std.specs.List.{AllByRecursion}
use Rattle.std.specs.Vec.Iter.{into_iter_len}
use Rattle.ledger_model.specs.Applications.{run}
use Rattle.run_picture.specs.Collected.{Collects}
use Rattle.run_picture.proofs.picture.collect.Given as goal

abbrev pub invariant-loop-number : goal.invariant-loop-number
invariant-loop-number g l =
    Collects (g.A.Application.meaning) l.scope.config l.initial.verifier.ring l.scope.part l.histories l.number l.collected
    × (l.verifier.ring ≡ l.initial.verifier.ring)
    × (l.scope.config.replicas ≤ l.number + into_iter_len l.apps)
    × AllByRecursion (λ app. g.A.Application.machine app ≡ run (g.A.Application.meaning) l.scope.config.kind []) l.apps.rest.items
