use Rattle.std.proofs.Common.{subst, arith}
use Rattle.std.proofs.lemmas.Grind.{elements}
use Rattle.adversary_net.specs.WorldViews.{IsCluster}
use Rattle.adversary_net.proofs.world.World.party.Goals as goal

pub returns-clause-cluster : goal.returns-clause-cluster
returns-clause-cluster g c = subst (IsCluster (g.A.Application.meaning)) c.self.view_is c.self.invariant

pub returns-clause-party : goal.returns-clause-party
returns-clause-party g c = grind (arith, elements)
