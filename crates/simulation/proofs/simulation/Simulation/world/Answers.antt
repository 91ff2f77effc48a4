use Rattle.std.proofs.Common.{subst}
use Rattle.adversary_net.specs.WorldViews.{AllReplay}
use Rattle.adversary_net.specs.Headline.{IsUnforgedRun, IsOneLedger}
use Rattle.simulation.proofs.simulation.Simulation.world.Goals as goal

pub returns-clause-one_ledger : goal.returns-clause-one_ledger
returns-clause-one_ledger g c = subst (λ s. IsUnforgedRun s.cluster → IsOneLedger (g.A.Application.meaning) s.cluster) c.self.view_is
    c.order.ensures.one_ledger

pub returns-clause-replay : goal.returns-clause-replay
returns-clause-replay g c = subst (λ s. AllReplay (g.A.Application.meaning) s.cluster) c.self.view_is c.order.ensures.replay
