use Rattle.std.proofs.Common.{sym}
use Rattle.std.specs.Int.Bits.{or_zero_r}
use Rattle.tally.proofs.masks.with_bit.Goals as goal

pub returns-else-set : goal.returns-else-set
returns-else-set c = rw c.if-set.false (sym (or_zero_r c.args.mask))
