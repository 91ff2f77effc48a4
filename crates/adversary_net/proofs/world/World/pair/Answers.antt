use Rattle.std.proofs.Common.{rules}
use Rattle.adversary_net.proofs.world.World.pair.Goals as goal

pub returns-clause-from : goal.returns-clause-from
returns-clause-from g c = c.in_ok-correct.ensures.entries

pub returns-then-number-self-clause-fault : goal.returns-then-number-self-clause-fault
returns-then-number-self-clause-fault g c = search rules
