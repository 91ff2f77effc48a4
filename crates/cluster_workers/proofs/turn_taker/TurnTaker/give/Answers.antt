use Rattle.cluster_workers.proofs.Growing.{grown}
use Rattle.cluster_workers.proofs.turn_taker.TurnTaker.give.Goals as goal

pub returns-clause-grows : goal.returns-clause-grows
returns-clause-grows g c =
    grown (g.A.Application.meaning) c.turn.result c.args.events.items c.args.state.now c.turn.new.state c.turn.ensures.applied
    c.turn.ensures.refused
