-- this number of rounds has ended
use Rattle.std.proofs.Common.{[], replicate}
use Rattle.ledger_model.specs.declared.event.Event.TheVariants as event
use Rattle.program.specs.Answering.{AnswersEvents}
use Rattle.program.proofs.replica.end_rounds.Given as goal

abbrev pub invariant-loop : goal.invariant-loop
invariant-loop g l = AnswersEvents (g.A.Application.meaning) l.initial.state (replicate l.counter event.RoundEnd) [] l.state
