use Rattle.std.proofs.Common.{◌≡◌, [], ◌∷◌, sym, ap, subst, ◌∙◌}
use Rattle.std.specs.Prelude.{slice_get}
use Rattle.std.specs.Option.{option_copied}
use Rattle.adversary_net.specs.Leaves.{IsAnswered}
use Rattle.simulation.specs.Playing.{IsReachedByRun}
use Rattle.simulation.proofs.Indexing.{index_later}
use Rattle.simulation.proofs.StepLemmas.{goes_by, stays, some_answer, the_answer}
use Rattle.simulation.proofs.simulation.Simulation.take.Goals as goal

pub returns-in_err-run-clause-goes_on : goal.returns-in_err-run-clause-goes_on
returns-in_err-run-clause-goes_on g c =
    subst (λ s. IsReachedByRun (g.A.Application.meaning) s.cluster c.run.new.self) c.self.view_is
    (subst (IsReachedByRun (g.A.Application.meaning) c.self.inside.world) (sym c.in_err-run.ensures.err)
    (stays (g.A.Application.meaning) c.self.inside.world))

pub unreachable-requires : goal.unreachable-requires
unreachable-requires g c =
    some_answer (g.A.Application.meaning) c.self.inside.world c.args.step.now c.in_ok-run.field-0.items c.run.new.self
    (let one : c.from_ref.result.now ≡ c.args.step.now ∷ [] = c.from_ref.ensures.value in rw one at c.in_ok-run.ensures.each)
    (ap (λ l. slice_get l 0) (sym c.deref.ensures.value) ∙ sym c.first.ensures.value ∙ ap option_copied c.in-None.is)

pub returns-clause-taken : goal.returns-clause-taken
returns-clause-taken g c =
    subst (λ s. IsAnswered (g.A.Application.meaning) s.cluster c.args.step.now c.in-Some.answer.now c.run.new.self) c.self.view_is
    (the_answer (g.A.Application.meaning) c.self.inside.world c.args.step.now c.in_ok-run.field-0.items c.in-Some.answer.now c.run.new.self
    (let one : c.from_ref.result.now ≡ c.args.step.now ∷ [] = c.from_ref.ensures.value in rw one at c.in_ok-run.ensures.each)
    (ap (λ l. slice_get l 0) (sym c.deref.ensures.value) ∙ sym c.first.ensures.value ∙ ap option_copied c.in-Some.is))

pub invariant_of-self-2 : goal.invariant_of-self-2
invariant_of-self-2 g c =
    index_later (g.A.Application.meaning) c.self.inside.index c.self.inside.world c.run.new.self c.self.inside.lies.items c.self.invariant
    (goes_by (g.A.Application.meaning) c.self.inside.world c.run.new.self _ c.in_ok-run.field-0.items c.in_ok-run.ensures.runs
    c.in_ok-run.ensures.same)
