use Rattle.std.proofs.Common.{sym}
use Rattle.replica_core.proofs.DueLeaves.{due_is}
use Rattle.replica_core.proofs.replica.Core.is_mute.Goals as goal

-- what is kept stays within its limits, and so what is due by it is due by each history that it matches
pub returns-clause-due : goal.returns-clause-due
returns-clause-due g c = rw (sym c.self.view_is) (λ entries matches. due_is
    (g.A.Application.meaning) c.self.inside.replay entries c.is_mute.ensures.limits matches)
