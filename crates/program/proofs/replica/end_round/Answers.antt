use Rattle.ledger_model.specs.declared.event.Event.TheVariants as event
use Rattle.program.proofs.AnsweringLemmas.{still_full, taken_silently, round_end_silent}
use Rattle.program.proofs.replica.end_round.Goals as goal

pub returns-clause-answers : goal.returns-clause-answers
returns-clause-answers g c =
    let told = c.apply-outcome.ensures in
    taken_silently (g.A.Application.meaning) c.args.state.now c.apply-outcome.new.self event.RoundEnd c.apply-outcome.result c.taken.result
    c.taken.ensures.same
    told.applied told.refused told.sound (round_end_silent (g.A.Application.meaning) c.args.state.now)

pub returns-clause-cause : goal.returns-clause-cause
returns-clause-cause g c =
    c.taken.ensures.cause c.apply-outcome.new.self.entries
    (still_full c.args.state.now c.apply-outcome.new.self event.RoundEnd c.apply-outcome.result c.apply-outcome.ensures.refused)
