use Rattle.cluster_service.proofs.Outcomes.{submit_outcome}
use Rattle.cluster_service.proofs.asking.submit.Goals as goal

pub returns-clause-outcome : goal.returns-clause-outcome
returns-clause-outcome g c =
    submit_outcome (g.A.Application.meaning) c.args.state.now c.submit.new.state c.args.tx.now c.submit.result c.submit.ensures.answer
    c.submit.ensures.receipt
    c.submit.ensures.applied c.submit.ensures.needed c.submit.ensures.sound c.submit.ensures.leaves
