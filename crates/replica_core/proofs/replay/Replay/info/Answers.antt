use Rattle.std.proofs.Common.{sym}
use Rattle.replica_core.proofs.Machines.{shown}
use Rattle.replica_core.proofs.replay.Replay.info.Goals as goal

pub returns : goal.returns
returns g c = rw (sym c.self.view_is)
    (shown (g.A.Application.meaning) (c.self.inside.executor) (c.self.inside.config.kind) (c.self.inside.committed.items)
    (c.self.invariant.3) c.info.result
    c.info.ensures)
