use Rattle.verify_cache.proofs.Priming.{priming_next, priming_keeps}
use Rattle.verify_cache.proofs.verifier.Verifier.prime_all.Goals as goal

pub loop-part-preserved : goal.loop-part-preserved
loop-part-preserved c =
    priming_next c.args.ring.now c.args.parts.now c.args.self.now _ _ _ c.loop-part.invariant c.in-Some.part.now _ c.in-Some.answer.now _
    c.prime_part.new.self c.in-Some.ensures.steps.0 c.in-Some.ensures.steps.1 c.prime_part.ensures

pub returns-clause-ring : goal.returns-clause-ring
returns-clause-ring c = priming_keeps c.args.ring.now c.args.parts.now c.args.self.now _ _ _ c.loop-part.invariant
