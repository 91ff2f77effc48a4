use Rattle.std.proofs.Common.{rules}
use Rattle.lm_ots.proofs.params.Params.from_codes.Goals as goal

pub returns-in-3 : goal.returns-in-3
returns-in-3 c = search rules

pub returns-in-4 : goal.returns-in-4
returns-in-4 c = search rules
