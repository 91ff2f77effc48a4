use Rattle.std.proofs.Common.{arith}
use Rattle.signed_frames.proofs.Grammar.{parts_spelled}
use Rattle.signed_frames.proofs.parsing.parts_of.Goals as goal

pub returns-clause-spelled : goal.returns-clause-spelled
returns-clause-spelled c = parts_spelled c.args.version c.args.bytes.now c.parts_at.result (λ i. omega (arith, c.type_inv.bytes i))
    c.parts_at.ensures
