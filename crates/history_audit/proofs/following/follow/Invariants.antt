-- the entries so far are a replay, which the follower matches
use Rattle.std.proofs.Common.{◌≡◌, false, take}
use Rattle.ledger_model.specs.Lawful.{Replay}
use Rattle.replica_core.specs.Replays.{MatchesHistory}
use Rattle.replica_core.specs.Following.{IsSameReplay}
use Rattle.history_audit.proofs.following.follow.Given as goal

abbrev pub invariant-loop-index : goal.invariant-loop-index
invariant-loop-index g l =
    MatchesHistory (g.A.Application.meaning) l.follower.replay (take l.index l.entries)
    × Replay (g.A.Application.meaning) l.fn.follower.replay.config l.fn.follower.replay.ring l.fn.follower.replay.id
    (take l.index l.entries)
    × (l.follower.lost ≡ false)
    × IsSameReplay l.fn.follower.replay l.follower.replay
