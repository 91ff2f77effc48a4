use Rattle.std.proofs.Common.{rules}
use Rattle.lm_ots.proofs.params.Params.ots_len.Goals as goal

pub returns : goal.returns
returns c = search rules
