use Rattle.std.proofs.Common.{refl}
use Rattle.batch_pool.proofs.Checked.{stays_by}
use Rattle.batch_pool.proofs.pool.stays.Goals as goal

pub returns : goal.returns
returns g c = stays_by (g.A.Application.meaning) (g.A.Application.machine c.args.app.now) c.args.tx.now c.check_tx.result _
    c.check_tx.ensures refl
