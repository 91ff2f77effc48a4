-- The value under a digest is its number: the lower four of eight bytes.
use Rattle.std.proofs.Common.{◌∙◌, ap, subst, sym, Some, drop, take}
use Rattle.std.specs.Prelude.{option_map}
use Rattle.std.specs.Int.{w32, to_be_bytes}
use Rattle.notary_app.specs.Registers.{digest_number}
use Rattle.notary_app.proofs.Registering.{AreDigests, holds}
use Rattle.notary_app.proofs.register.RegisterAppState.held.Goals as goal

pub returns-in_ok-from_slice-in-Some : goal.returns-in_ok-from_slice-in-Some
returns-in_ok-from_slice-in-Some c = holds c.args.self.now (subst AreDigests c.self.view_is c.self.invariant) c.args.key.now _
    (ap Some (c.in_ok-from_slice-in-Some.ensures.items ∙ ap (λ bytes. take 4 (drop 4 bytes)) c.to_be_bytes-bytes.ensures)
    ∙ ap (option_map (to_be_bytes w32)) (sym c.in-Some.is ∙ c.number_of.ensures
    ∙ ap (λ ds. digest_number ds c.args.key.now) (c.as_slice.ensures.value ∙ c.self.view_is)))

pub returns-in-None : goal.returns-in-None
returns-in-None c = holds c.args.self.now (subst AreDigests c.self.view_is c.self.invariant) c.args.key.now _
    (ap (option_map (to_be_bytes w32)) (sym c.in-None.is ∙ c.number_of.ensures
    ∙ ap (λ ds. digest_number ds c.args.key.now) (c.as_slice.ensures.value ∙ c.self.view_is)))
