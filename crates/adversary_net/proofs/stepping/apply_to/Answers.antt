use Rattle.std.proofs.Common.{refl}
use Rattle.std.proofs.lemmas.Result.{IfOk-weaker, on_err_weaker}
use Rattle.adversary_net.specs.declared.party.Party.TheVariants as party
use Rattle.adversary_net.specs.Steps.{AppliesAt, AppliesTo}
use Rattle.adversary_net.proofs.stepping.apply_to.Goals as goal

pub returns-clause-applied : goal.returns-clause-applied
returns-clause-applied g c =
    rw c.in-Correct.is
    (IfOk-weaker c.apply.result (λ index. AppliesAt (g.A.Application.meaning) c.in-Correct.replica c.args.event index c.apply.new.self)
    (λ index. AppliesTo (g.A.Application.meaning) c.in-Correct.replica c.args.event index (party.Correct c.apply.new.self))
    (λ index applied. (c.apply.new.self, (refl, applied))) c.apply.ensures.applied)

pub returns-clause-err : goal.returns-clause-err
returns-clause-err g c = rw c.in-Correct.is (on_err_weaker c.apply.result (λ stays. (c.apply.new.self, (refl, stays))) c.apply.ensures.err)
