-- the entries so far are a replay, which the follower matches, and what they decide and give up was appended
use Rattle.std.proofs.Common.{◌≡◌, ◌++◌, false, take}
use Rattle.ledger_model.specs.Lawful.{Replay}
use Rattle.replica_core.specs.Replays.{MatchesHistory}
use Rattle.replica_core.specs.Following.{IsSameReplay}
use Rattle.run_picture.specs.Decisions.{decisions_in}
use Rattle.run_picture.specs.Retiring.{retired_in}
use Rattle.run_picture.proofs.following.follow_entries.Given as goal

abbrev pub invariant-loop-index : goal.invariant-loop-index
invariant-loop-index g l =
    MatchesHistory (g.A.Application.meaning) l.follower.replay (take l.index l.entries)
    × Replay (g.A.Application.meaning) l.fn.follower.replay.config l.fn.follower.replay.ring l.fn.follower.replay.id
    (take l.index l.entries)
    × (l.follower.lost ≡ false)
    × IsSameReplay l.fn.follower.replay l.follower.replay
    × (l.marks.decisions.items ≡ l.fn.marks.decisions.items
    ++ decisions_in l.fn.follower.replay.config l.part l.fn.follower.replay.id (take l.index l.entries))
    × (l.marks.retired.items ≡ l.fn.marks.retired.items ++ retired_in l.part l.fn.follower.replay.id (take l.index l.entries))
