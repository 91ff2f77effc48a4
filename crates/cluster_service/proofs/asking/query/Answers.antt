use Rattle.std.proofs.Common.{refl, rules}
use Rattle.cluster_service.proofs.Outcomes.{query_outcome}
use Rattle.cluster_service.proofs.asking.query.Goals as goal

pub returns-clause-answer : goal.returns-clause-answer
returns-clause-answer g c = search rules

pub returns-clause-applied : goal.returns-clause-applied
returns-clause-applied g c = search rules

pub returns-clause-long : goal.returns-clause-long
returns-clause-long g c = search rules

pub returns-clause-long_same : goal.returns-clause-long_same
returns-clause-long_same g c = search rules

pub returns-clause-full : goal.returns-clause-full
returns-clause-full g c = search rules

pub returns-clause-outcome : goal.returns-clause-outcome
returns-clause-outcome g c =
    query_outcome (g.A.Application.meaning) c.args.state.now c.query.new.state c.args.key.now c.query.result (returns-clause-applied g c)
    (returns-clause-answer g c)
    (returns-clause-long g c) (returns-clause-long_same g c) (λ full. (returns-clause-full g c full).0) c.query.ensures.sound
    c.query.ensures.leaves

pub returns-in_default-key-clause-answer : goal.returns-in_default-key-clause-answer
returns-in_default-key-clause-answer g c = search rules

pub returns-in_default-key-clause-applied : goal.returns-in_default-key-clause-applied
returns-in_default-key-clause-applied g c = search rules

pub returns-in_default-key-clause-long : goal.returns-in_default-key-clause-long
returns-in_default-key-clause-long g c = search rules

pub returns-in_default-key-clause-outcome : goal.returns-in_default-key-clause-outcome
returns-in_default-key-clause-outcome g c = record {
  old = c.args.state.now;
  new = c.args.state.now;
  applied = returns-in_default-key-clause-applied g c;
  sound = c.len.ensures.sound;
  answered = returns-in_default-key-clause-answer g c;
  long_same = λ far. refl;
  long = returns-in_default-key-clause-long g c;
  unsigned = refl;
}
