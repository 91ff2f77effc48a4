use Rattle.std.proofs.Common.{arith}
use Rattle.lm_ots.proofs.Coefs.{coef-last, checksum-is}
use Rattle.lm_ots.proofs.digits.checksum.Goals as goal

pub overflow_sub-last_step : goal.overflow_sub-last_step
overflow_sub-last_step c = omega (arith, coef-last c.args.params.width c.args.digest.now c.loop-index.index)

pub returns : goal.returns
returns c = checksum-is c.args.params c.args.digest.now _ c.loop-index.index _ (omega arith) c.checksum_shift.ensures
    c.loop-index.invariant.bounded c.loop-index.invariant.total
