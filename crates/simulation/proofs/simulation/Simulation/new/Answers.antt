use Rattle.std.proofs.Common.{rules}
use Rattle.simulation.proofs.Indexing.{index_fresh}
use Rattle.simulation.proofs.simulation.Simulation.new.Goals as goal

pub returns-in-Ok-clause-no_such : goal.returns-in-Ok-clause-no_such
returns-in-Ok-clause-no_such g c = (λ no. absurd cc, λ p. absurd (let other = c.in-Ok.ensures.no_such.1 p in cc))

pub returns-in-Ok-clause-new : goal.returns-in-Ok-clause-new
returns-in-Ok-clause-new g c = search rules

pub returns-in-Ok-clause-too_many : goal.returns-in-Ok-clause-too_many
returns-in-Ok-clause-too_many g c = search rules

pub returns-in-Err-clause-too_many : goal.returns-in-Err-clause-too_many
returns-in-Err-clause-too_many g c = search rules

pub returns-in-Err-clause-no_such : goal.returns-in-Err-clause-no_such
returns-in-Err-clause-no_such g c = search rules

pub invariant_of-result : goal.invariant_of-result
invariant_of-result g c =
    index_fresh c.new-in-Ok-2.result c.in-Ok.world c.new-in-Ok.result.items c.new-in-Ok-2.ensures.sent c.new-in-Ok-2.ensures.seen
    c.new-in-Ok-2.ensures.reports
