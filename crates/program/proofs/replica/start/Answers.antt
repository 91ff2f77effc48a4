use Rattle.std.proofs.Common.{[], ◌∷◌, List, replicate, ◌≡◌, refl, ◌∙◌, subst, arith}
use Rattle.ledger_model.specs.declared.event.Event.{Event}
use Rattle.ledger_model.specs.declared.event.Event.TheVariants as event
use Rattle.program.specs.Answering.{AnswersEvents, starting}
use Rattle.byte_streams.proofs.Faults.{on_error, each_way}
use Rattle.program.proofs.AnsweringLemmas.{answers_both, some_none, some_after}
use Rattle.program.proofs.replica.start.Goals as goal

pub returns-clause-answers : goal.returns-clause-answers
returns-clause-answers g c =
    let s = c.args.settings.now in
    let same : c.in-Ok.value ≡ s.value = c.in-Ok.ensures ∙ c.as_bytes.ensures.bytes in
    let submitted = subst (λ b. AnswersEvents (g.A.Application.meaning) c.args.state.now (event.Submit b ∷ []) [] c.submit.new.state) same
    c.in_ok-submit.ensures.answers in
    let rest : List Event = replicate s.rounds event.RoundEnd in
    let first = answers_both (g.A.Application.meaning) c.args.state.now _ _ (event.Submit s.value ∷ [])
    (event.Propose s.height ∷ []) [] [] submitted
    c.in_ok-propose.ensures.answers in
    each_way _ _ _ _ c.end_rounds.result
    (λ _ all. answers_both (g.A.Application.meaning) c.args.state.now _ _
    (event.Submit s.value ∷ event.Propose s.height ∷ []) rest [] [] first all)
    (λ _ some. some_after (g.A.Application.meaning) c.args.state.now _ _
    (event.Submit s.value ∷ event.Propose s.height ∷ []) rest [] [] first some)
    c.end_rounds.ensures.answers

pub returns-in_err-propose-clause-answers : goal.returns-in_err-propose-clause-answers
returns-in_err-propose-clause-answers g c =
    let s = c.args.settings.now in
    let same : c.in-Ok.value ≡ s.value = c.in-Ok.ensures ∙ c.as_bytes.ensures.bytes in
    let submitted = subst (λ b. AnswersEvents (g.A.Application.meaning) c.args.state.now (event.Submit b ∷ []) [] c.submit.new.state) same
    c.in_ok-submit.ensures.answers in
    let rest : List Event = event.Propose s.height ∷ replicate s.rounds event.RoundEnd in
    on_error _ _ c.from_residual-in_err-propose.ensures.0
    (some_after (g.A.Application.meaning) c.args.state.now _ _ (event.Submit s.value ∷ []) rest [] [] submitted
    (some_none (g.A.Application.meaning) _ _ rest c.in_err-propose.ensures.answers))

pub returns-in_err-submit-clause-answers : goal.returns-in_err-submit-clause-answers
returns-in_err-submit-clause-answers g c =
    on_error _ _ c.from_residual.ensures.0 (some_none (g.A.Application.meaning) _ _
    (starting c.args.settings.now) c.in_err-submit.ensures.answers)

pub returns-in_default-clause-answers : goal.returns-in_default-clause-answers
returns-in_default-clause-answers g c = some_none (g.A.Application.meaning) _ _ (starting c.args.settings.now)
    (record { same = refl; least = omega arith })
