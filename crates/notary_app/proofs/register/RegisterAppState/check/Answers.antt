-- CheckTx judges as a block does.
use Rattle.std.proofs.Common.{◌∙◌, ap, subst}
use Rattle.notary_app.specs.Registers.{register_code}
use Rattle.notary_app.proofs.Registering.{AreDigests, checks}
use Rattle.notary_app.proofs.register.RegisterAppState.check.Goals as goal

pub returns : goal.returns
returns c = checks c.args.self.now (subst AreDigests c.self.view_is c.self.invariant) c.args.tx.now _
    (c.code_of.ensures ∙ ap (λ ds. register_code ds c.args.tx.now) (c.as_slice.ensures.value ∙ c.self.view_is))
