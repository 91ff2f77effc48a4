-- the histories of the replicas so far are replays, the ledger is the longest of what they commit, and there is an application
-- for each history that is still to come
use Rattle.std.proofs.Common.{◌≡◌, ◌≤◌, []}
use Rattle.std.specs.List.{AllByRecursion}
use Rattle.std.specs.Vec.Iter.{into_iter_len}
use Rattle.ledger_model.specs.Applications.{run}
use Rattle.history_audit.specs.Followed.{LongestBelow}
use Rattle.history_audit.proofs.Waiting.{waiting}
use Rattle.history_audit.proofs.following.follow_all.Given as goal

abbrev pub invariant-loop-number : goal.invariant-loop-number
invariant-loop-number g l =
    LongestBelow (g.A.Application.meaning) l.config l.initial.verifier.ring l.histories l.number l.ledger
    × (l.verifier.ring ≡ l.initial.verifier.ring)
    × (waiting l.number l.histories ≤ into_iter_len l.apps)
    × AllByRecursion (λ app. g.A.Application.machine app ≡ run (g.A.Application.meaning) l.config.kind []) l.apps.rest.items
