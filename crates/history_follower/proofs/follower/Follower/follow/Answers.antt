use Rattle.std.proofs.Common.{rules}
use Rattle.history_follower.proofs.follower.Follower.follow.Goals as goal

pub returns-clause-exact : goal.returns-clause-exact
returns-clause-exact g c = search rules

pub returns-clause-matches : goal.returns-clause-matches
returns-clause-matches g c = search rules
