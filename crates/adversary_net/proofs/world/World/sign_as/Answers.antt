use Rattle.std.proofs.Common.{◌<◌, length, ◌∙◌, arith}
use Rattle.adversary_net.proofs.LiarSignatures.{signed_keeps, signs_after, none_after, same_after, no_liar}
use Rattle.adversary_net.proofs.world.World.sign_as.Goals as goal

pub returns-then-place-len-clause-none : goal.returns-then-place-len-clause-none
returns-then-place-len-clause-none g c =
    no_liar c.self.view_is c.args.liar
    (omega (arith, c.if-place-len.true, c.len.ensures, c.self.inside.parties.ok, c.from-place.ensures, c.number.ensures))

pub invariant_of-self : goal.invariant_of-self
invariant_of-self g c =
    let within : c.from-place.result < length c.self.inside.parties.items =
    omega (arith, c.if-place-len.false, c.len.ensures, c.self.inside.parties.ok) in
    signed_keeps (g.A.Application.meaning) (λ v. v.items) c.self.view_is
    (c.from-place.ensures ∙ c.number.ensures) within c.index_mut.ensures.value
    c.signature_of.new.party c.args.message.now c.signature_of.result c.self.invariant
    c.signature_of.ensures.signs c.signature_of.ensures.same

pub returns-clause-signs : goal.returns-clause-signs
returns-clause-signs g c =
    let within : c.from-place.result < length c.self.inside.parties.items =
    omega (arith, c.if-place-len.false, c.len.ensures, c.self.inside.parties.ok) in
    signs_after (g.A.Application.meaning) (λ v. v.items) c.self.view_is
    (c.from-place.ensures ∙ c.number.ensures) within c.index_mut.ensures.value
    c.signature_of.new.party c.args.message.now c.signature_of.result c.signature_of.ensures.signs

pub returns-clause-none : goal.returns-clause-none
returns-clause-none g c =
    let within : c.from-place.result < length c.self.inside.parties.items =
    omega (arith, c.if-place-len.false, c.len.ensures, c.self.inside.parties.ok) in
    none_after (g.A.Application.meaning) (λ v. v.items) c.self.view_is
    (c.from-place.ensures ∙ c.number.ensures) within c.index_mut.ensures.value
    c.signature_of.new.party c.args.message.now c.signature_of.result c.signature_of.ensures.none

pub returns-clause-same : goal.returns-clause-same
returns-clause-same g c =
    let within : c.from-place.result < length c.self.inside.parties.items =
    omega (arith, c.if-place-len.false, c.len.ensures, c.self.inside.parties.ok) in
    same_after (g.A.Application.meaning) (λ v. v.items) c.self.view_is
    (c.from-place.ensures ∙ c.number.ensures) within c.index_mut.ensures.value
    c.signature_of.new.party c.args.message.now c.signature_of.result c.signature_of.ensures.same
