use Rattle.std.proofs.Common.{sym}
use Rattle.replica_core.proofs.replay.Replay.clock.Goals as goal

pub returns-clause-same : goal.returns-clause-same
returns-clause-same g c = rw (sym c.self.view_is) (λ entries matches. matches.clock)
