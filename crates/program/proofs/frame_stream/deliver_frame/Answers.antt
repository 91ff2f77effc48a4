use Rattle.std.proofs.Common.{[], ◌∷◌, subst}
use Rattle.ledger_model.specs.declared.event.Event.TheVariants as event
use Rattle.program.specs.Lines.{line_bytes}
use Rattle.program.specs.Answering.{AnswersEvents}
use Rattle.byte_streams.proofs.Faults.{on_error, each_way}
use Rattle.byte_streams.proofs.WritingLemmas.{nothing_some}
use Rattle.program.proofs.CauseLemmas.{if_stops}
use Rattle.program.proofs.AnsweringLemmas.{some_all, some_none}
use Rattle.program.proofs.frame_stream.deliver_frame.Goals as goal

pub returns-in_err-line-clause-prints : goal.returns-in_err-line-clause-prints
returns-in_err-line-clause-prints g c =
    on_error _ _ c.from_residual.ensures.0 (
      [],
      (
        some_none (g.A.Application.meaning) _ _ _ c.in_err-line.ensures.answers,
        nothing_some _
            [],
      ),
    )

pub returns-clause-prints : goal.returns-clause-prints
returns-clause-prints g c =
    let text = line_bytes c.in_ok-line.line in
    let answered = subst (λ b. AnswersEvents (g.A.Application.meaning) c.args.state.now (event.Deliver b ∷ []) text c.answer.new.state)
    c.into_bytes.ensures.1
    c.in_ok-line.ensures.answers in
    each_way _ _ _ _ c.print_line.result (λ _ w. (text, (answered, w)))
    (λ _ w. (text, (some_all (g.A.Application.meaning) _ _ _ text answered, w)))
    c.print_line.ensures.written

pub returns-clause-cause : goal.returns-clause-cause
returns-clause-cause g c = if_stops _ _ c.print_line.ensures.fault
