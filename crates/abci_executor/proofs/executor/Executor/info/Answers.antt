use Rattle.abci_executor.proofs.Blocks.{shows_blocks}
use Rattle.abci_executor.proofs.executor.Executor.info.Goals as goal

pub returns : goal.returns
returns g c = rw (← c.self.view_is) (shows_blocks (g.A.Application.meaning)
    (g.A.Application.machine c.self.inside.app) c.info.result c.info.ensures)
