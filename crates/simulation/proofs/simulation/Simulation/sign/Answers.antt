use Rattle.std.proofs.Common.{◌≡◌, ap, subst}
use Rattle.simulation.specs.Playing.{IsReachedByRun}
use Rattle.simulation.proofs.Indexing.{index_later}
use Rattle.simulation.proofs.StepLemmas.{stays, signs_or_not}
use Rattle.simulation.proofs.simulation.Simulation.sign.Goals as goal

pub returns-in_err-unsigned-clause-goes_on : goal.returns-in_err-unsigned-clause-goes_on
returns-in_err-unsigned-clause-goes_on g c = stays (g.A.Application.meaning) c.args.self.now.cluster

pub returns-clause-done : goal.returns-clause-done
returns-clause-done g c =
    let same : c.self.inside.world ≡ c.args.self.now.cluster = ap (λ s. s.cluster) c.self.view_is in
    let signed = c.sign_as-answer in
    rw (same, c.in_ok-unsigned.ensures) at
    (c.signing_of.ensures c.args.liar c.self.inside.world signed.new.self (rw c.statement_bytes.ensures at signed.ensures.signs)
    signed.ensures.none signed.ensures.same)

pub returns-clause-goes_on : goal.returns-clause-goes_on
returns-clause-goes_on g c =
    let signed = c.sign_as-answer in
    subst (λ s. IsReachedByRun (g.A.Application.meaning) s.cluster signed.new.self) c.self.view_is
    (signs_or_not (g.A.Application.meaning) (λ s. s.items) c.self.inside.world c.args.liar _ signed.result signed.new.self
    signed.ensures.signs signed.ensures.same)

pub invariant_of-self : goal.invariant_of-self
invariant_of-self g c =
    let signed = c.sign_as-answer in
    index_later (g.A.Application.meaning) c.self.inside.index c.self.inside.world signed.new.self c.self.inside.lies.items c.self.invariant
    (signs_or_not (g.A.Application.meaning) (λ s. s.items) c.self.inside.world c.args.liar _ signed.result signed.new.self
    signed.ensures.signs signed.ensures.same)
