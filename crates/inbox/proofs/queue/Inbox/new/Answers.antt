use Rattle.std.proofs.Common.{arith, rules}
use Rattle.std.proofs.lemmas.Grind.{elements}
use Rattle.inbox.proofs.Moves.{begins}
use Rattle.inbox.proofs.queue.Inbox.new.Goals as goal

pub ruled-requires-clause-rule : goal.ruled-requires-clause-rule
ruled-requires-clause-rule c = begins

pub returns-clause-taking : goal.returns-clause-taking
returns-clause-taking c = search rules

pub returns-clause-count : goal.returns-clause-count
returns-clause-count c = search rules

pub returns-clause-putting : goal.returns-clause-putting
returns-clause-putting c = search rules

pub loop-number-preserved : goal.loop-number-preserved
loop-number-preserved c = grind (arith, elements)
