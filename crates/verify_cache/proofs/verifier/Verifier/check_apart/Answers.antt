use Rattle.std.proofs.Common.{◌∙◌, subst, sym}
use Rattle.verify_cache.specs.Same.{signed_of}
use Rattle.verify_cache.specs.Verifiers.{AreAnswers}
use Rattle.verify_cache.proofs.StoredAnswers.{found}
use Rattle.verify_cache.proofs.verifier.Verifier.check_apart.Goals as goal

pub returns-in-Some-clause-answer : goal.returns-in-Some-clause-answer
returns-in-Some-clause-answer c =
    let signed = signed_of c.args.signer c.args.message.now c.args.signature.now in
    found c.args.self.now.ring c.self.inside.known.entries signed c.in-Some.answer
    (subst (λ v. AreAnswers v.ring c.self.inside.known.entries) c.self.view_is c.self.invariant.2) (sym c.find.ensures ∙ c.in-Some.is)
