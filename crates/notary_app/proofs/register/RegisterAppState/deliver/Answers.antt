-- A digest is registered, or refused.
use Rattle.std.proofs.Common.{◌≡◌, ◌∙◌, ◌++◌, ◌∷◌, [], ap, rules, subst, sym}
use Rattle.std.proofs.lemmas.Bool.{ne_eqb}
use Rattle.app_states.specs.AppStates.{DeliversTx}
use Rattle.app_states.proofs.Blocks.{blocks-push}
use Rattle.notary_app.specs.Registers.{register_code, register, register_bytes}
use Rattle.notary_app.proofs.Registering.{AreDigests, registers, refuses}
use Rattle.notary_app.proofs.register.RegisterAppState.deliver.Goals as goal

pub returns-then-code-ne0 : goal.returns-then-code-ne0
returns-then-code-ne0 c = refuses c.args.self.now (subst AreDigests c.self.view_is c.self.invariant) c.args.tx.now _
    (c.code_of-code.ensures ∙ ap (λ ds. register_code ds c.args.tx.now) (c.as_slice.ensures.value ∙ c.self.view_is))
    (ne_eqb _ _ c.if-code-ne0.true)

pub returns : goal.returns
returns c =
    let now = c.args.self.now in
    let digest : c.in-Ok.digest ≡ c.args.tx.now = search rules in
    subst (λ ds. DeliversTx register (register_bytes now) c.args.tx.now 0 (register_bytes ds))
    (sym (c.in_ok-push.ensures.items ∙ ap (λ ds. ds ++ c.in-Ok.digest ∷ []) c.self.view_is ∙ ap (λ d. now ++ d ∷ []) digest))
    (registers now (subst AreDigests c.self.view_is c.self.invariant) c.args.tx.now
    (sym (c.code_of-code.ensures ∙ ap (λ ds. register_code ds c.args.tx.now) (c.as_slice.ensures.value ∙ c.self.view_is)) ∙ c.if-code-ne0.false))

pub invariant_of-self : goal.invariant_of-self
invariant_of-self c = subst AreDigests (sym c.in_err-push.ensures.items) c.self.invariant

pub invariant_of-self-2 : goal.invariant_of-self-2
invariant_of-self-2 c = subst AreDigests (sym c.in_ok-push.ensures.items) (blocks-push 32 _ _ c.self.invariant (search rules))
