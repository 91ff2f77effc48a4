use Rattle.std.proofs.Common.{sym, ◌∙◌}
use Rattle.replica_core.proofs.Unopened.{decided_there}
use Rattle.replica_core.proofs.replay.Replay.decided_at.Goals as goal

-- what is held decides what each history decided that it matches
pub returns-clause-decided : goal.returns-clause-decided
returns-clause-decided g c = rw (sym c.self.view_is)
    (λ entries matches. c.decided_at.ensures.row
    ∙ decided_there (g.A.Application.meaning) _ entries matches
    (λ h row at. (c.decided_at.ensures.own h row at).0 ∙ c.self.invariant.1) c.args.height)
