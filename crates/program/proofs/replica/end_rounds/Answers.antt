use Rattle.std.proofs.Common.{◌≡◌, ◌+◌, ◌-◌, [], ◌∷◌, replicate, subst, ap, ◌∙◌, arith}
use Rattle.std.proofs.lemmas.List.{replicate_more, replicate-append-replicate}
use Rattle.ledger_model.specs.declared.event.Event.TheVariants as event
use Rattle.program.specs.Answering.{AnswersEvents, AnswersSome}
use Rattle.byte_streams.proofs.Faults.{on_error}
use Rattle.program.proofs.AnsweringLemmas.{answers_none, answers_both, some_none, some_after}
use Rattle.program.proofs.replica.end_rounds.Goals as goal

pub loop-init : goal.loop-init
loop-init g c = answers_none (g.A.Application.meaning) _

pub loop-preserved : goal.loop-preserved
loop-preserved g c =
    subst (λ l. AnswersEvents (g.A.Application.meaning) c.args.state.now l [] c.end_round.new.state)
    (replicate_more c.loop.counter event.RoundEnd)
    (answers_both (g.A.Application.meaning) _ _ _ (replicate c.loop.counter event.RoundEnd) (event.RoundEnd ∷ []) [] [] c.loop.invariant
    c.in_ok-end_round.ensures.answers)

pub returns-clause-answers : goal.returns-clause-answers
returns-clause-answers g c =
    let all : c.loop.counter ≡ c.args.rounds = omega (arith, c.loop-test.false, c.loop.auto.counter-end) in
    subst (λ n. AnswersEvents (g.A.Application.meaning) c.args.state.now (replicate n event.RoundEnd) [] c.loop.state) all c.loop.invariant

pub returns-in_err-end_round-clause-answers : goal.returns-in_err-end_round-clause-answers
returns-in_err-end_round-clause-answers g c =
    let k = c.loop.counter in
    let left : k + (c.args.rounds - k) ≡ c.args.rounds = omega (arith, c.loop-test.true) in
    on_error _ _ c.from_residual.ensures.0
    (subst (λ l. AnswersSome (g.A.Application.meaning) c.args.state.now l [] c.end_round.new.state)
    (replicate-append-replicate k (c.args.rounds - k) event.RoundEnd ∙ ap (λ n. replicate n event.RoundEnd) left)
    (some_after (g.A.Application.meaning) _ _ _ (replicate k event.RoundEnd)
    (replicate (c.args.rounds - k) event.RoundEnd) [] [] c.loop.invariant
    (some_none (g.A.Application.meaning) _ _ (replicate (c.args.rounds - k) event.RoundEnd) c.in_err-end_round.ensures.answers)))
