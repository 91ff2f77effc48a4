use Rattle.std.proofs.Common.{refl}
use Rattle.replica_core.proofs.Endings.{over}
use Rattle.replica_core.proofs.replica.Core.prepare_end.Goals as goal

pub returns-then-is_over-clause-step : goal.returns-then-is_over-clause-step
returns-then-is_over-clause-step g c = over (g.A.Application.meaning) c.args.self.now.replay (c.if-is_over.ensures.over refl)
