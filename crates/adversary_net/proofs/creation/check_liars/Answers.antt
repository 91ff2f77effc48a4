use Rattle.std.proofs.Common.{arith, rules}
use Rattle.adversary_net.proofs.Beginning.{all_below}
use Rattle.adversary_net.proofs.creation.check_liars.Goals as goal

pub returns-clause-may : goal.returns-clause-may
returns-clause-may c = record {
  few = omega (arith, c.if-different_of-from.false, c.different_of.ensures, c.from.ensures);
  below = all_below c.args.config.now c.args.liars.now (λ any. absurd (let t = c.if-has_stranger.ensures.1 any in cc));
}

pub returns-clause-too_many : goal.returns-clause-too_many
returns-clause-too_many c = search rules

pub returns-then-has_stranger-clause-too_many : goal.returns-then-has_stranger-clause-too_many
returns-then-has_stranger-clause-too_many c = search rules

pub returns-then-has_stranger-clause-no_such : goal.returns-then-has_stranger-clause-no_such
returns-then-has_stranger-clause-no_such c = search rules
