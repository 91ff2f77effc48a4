-- Each digest is hashed after those before it.
use Rattle.std.proofs.Common.{◌∙◌}
use Rattle.notary_app.proofs.Registering.{hashed}
use Rattle.notary_app.proofs.register.RegisterAppState.hash.Goals as goal

pub returns : goal.returns
returns c = c.finalize.ensures _ (hashed c.loop-digest.hasher _ _ c.loop-digest.digest-index
    (c.deref-digest-items.ensures.value ∙ c.self.view_is) c.loop-digest-test.false c.loop-digest.invariant)
