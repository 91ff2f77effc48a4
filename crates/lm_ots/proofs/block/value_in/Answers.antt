use Rattle.lm_ots.proofs.Writes.{mid_of-end}
use Rattle.lm_ots.proofs.block.value_in.Goals as goal

pub returns-clause-value : goal.returns-clause-value
returns-clause-value c = mid_of-end 23 32 c.args.message.now c.told-message
