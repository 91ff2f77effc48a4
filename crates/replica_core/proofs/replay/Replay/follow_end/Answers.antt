use Rattle.replica_core.proofs.ShownRounds.{ends_over}
use Rattle.replica_core.proofs.replay.Replay.follow_end.Goals as goal

-- no round is left, it says
pub returns-in-Err-clause-followed : goal.returns-in-Err-clause-followed
returns-in-Err-clause-followed g c =
    rw c.in-Err.is (ends_over (g.A.Application.meaning) c.args.self.now _ c.is_over.result c.is_over.ensures.over c.is_over.ensures.goes_on)
