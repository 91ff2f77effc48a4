use Rattle.std.proofs.Common.{subst}
use Rattle.adversary_net.specs.WorldViews.{IsCluster}
use Rattle.adversary_net.proofs.Headline.{one_ledger}
use Rattle.adversary_net.proofs.UsedLeaves.{accounts, once, replays}
use Rattle.adversary_net.proofs.world.World.order.Goals as goal

pub returns-clause-one_ledger : goal.returns-clause-one_ledger
returns-clause-one_ledger g c = one_ledger (g.A.Application.meaning) c.args.self.now
    (subst (IsCluster (g.A.Application.meaning)) c.self.view_is c.self.invariant)

pub returns-clause-account : goal.returns-clause-account
returns-clause-account g c = accounts (g.A.Application.meaning) c.args.self.now
    (subst (IsCluster (g.A.Application.meaning)) c.self.view_is c.self.invariant)

pub returns-clause-replay : goal.returns-clause-replay
returns-clause-replay g c = replays (g.A.Application.meaning) c.args.self.now
    (subst (IsCluster (g.A.Application.meaning)) c.self.view_is c.self.invariant)

pub returns-clause-once : goal.returns-clause-once
returns-clause-once g c = once (g.A.Application.meaning) c.args.self.now
    (subst (IsCluster (g.A.Application.meaning)) c.self.view_is c.self.invariant)
