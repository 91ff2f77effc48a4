use Rattle.std.proofs.Common.{rules}
use Rattle.lm_ots.proofs.leaf_chains.Chains.finish.Goals as goal

pub loop-index-preserved : goal.loop-index-preserved
loop-index-preserved c = search rules

pub returns-clause-none_left : goal.returns-clause-none_left
returns-clause-none_left c = search rules
