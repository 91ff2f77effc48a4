-- the marks at the heights so far
use Rattle.std.proofs.Common.{◌≡◌, ◌++◌, List, take}
use Rattle.std.specs.List.{flat_map}
use Rattle.ledger_model.specs.declared.history.Entry.{Entry}
use Rattle.ledger_model.specs.Commits.{decision_at}
use Rattle.replica_core.specs.Replays.{MatchesHistory}
use Rattle.run_picture.specs.Decisions.{mark_if}
use Rattle.run_picture.proofs.deciding.add_decisions.Given as goal

abbrev pub invariant-loop-height : goal.invariant-loop-height
invariant-loop-height g l =
    (entries : List Entry) → MatchesHistory (g.A.Application.meaning) l.replay entries → l.out.items ≡ l.fn.out.items
    ++ flat_map (λ h. mark_if l.part l.replica l.index l.clock h (decision_at l.replay.config l.replay.id entries h))
    (take l.height-index l.heights)
