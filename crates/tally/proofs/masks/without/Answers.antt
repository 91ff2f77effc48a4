use Rattle.std.proofs.Common.{arith, ap, ◌∙◌}
use Rattle.std.specs.Prelude.{◌==◌, if◌then◌else◌}
use Rattle.std.specs.Int.{bit_at}
use Rattle.tally.proofs.MaskBits.{without_bit, without_none}
use Rattle.tally.proofs.masks.without.Goals as goal

pub returns-then-number-ge16 : goal.returns-then-number-ge16
returns-then-number-ge16 c = λ r. without_none c.args.mask c.args.replica r (omega arith) (omega arith)

pub returns : goal.returns
returns c = λ r.
    without_bit c.args.mask c.number-2.result r (omega arith) (omega arith)
    ∙ ap (λ k. if r == k then 0 else bit_at c.args.mask r) c.number-2.ensures
