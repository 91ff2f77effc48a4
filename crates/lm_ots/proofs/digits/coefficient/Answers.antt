use Rattle.std.proofs.Common.{◌/◌, sym, arith}
use Rattle.lm_ots.proofs.Coefs.{coef-wide, coef-upper, coef-lower}
use Rattle.lm_ots.proofs.digits.coefficient.Goals as goal

pub returns-in-W4 : goal.returns-in-W4
returns-in-W4 c =
    rw c.in-W4.is (sym (coef-upper c.args.bytes.now c.args.index c.if-index-eq0.true ((c.type_inv.bytes (c.args.index / 2)).fits)))

pub returns-in-W4-2 : goal.returns-in-W4-2
returns-in-W4-2 c =
    rw c.in-W4.is (sym (coef-lower c.args.bytes.now c.args.index (omega arith)))

pub returns-in-W8 : goal.returns-in-W8
returns-in-W8 c =
    rw c.in-W8.is (sym (coef-wide c.args.bytes.now c.args.index ((c.type_inv.bytes c.args.index).fits)))
