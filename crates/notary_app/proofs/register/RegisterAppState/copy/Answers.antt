-- The copy has the same digests.
use Rattle.std.proofs.Common.{◌∙◌, ap, subst, sym}
use Rattle.app_states.proofs.Blocks.{arrays_cloned}
use Rattle.notary_app.specs.Registers.{register_bytes}
use Rattle.notary_app.proofs.Registering.{AreDigests}
use Rattle.notary_app.proofs.register.RegisterAppState.copy.Goals as goal

pub invariant_of-result : goal.invariant_of-result
invariant_of-result c = subst AreDigests (sym (arrays_cloned 32 _ _ c.in_ok-clone.ensures.cases.0)) c.self.invariant

pub returns : goal.returns
returns c = ap register_bytes (arrays_cloned 32 _ _ c.in_ok-clone.ensures.cases.0 ∙ c.self.view_is)
