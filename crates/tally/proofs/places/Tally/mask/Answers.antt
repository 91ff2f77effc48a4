use Rattle.tally.proofs.MaskBits.{mask_read_bit}
use Rattle.tally.proofs.places.Tally.mask.Goals as goal

pub returns-clause-bits : goal.returns-clause-bits
returns-clause-bits g c = λ r. rw (c.self.invariant.1, c.self.view_is) (mask_read_bit c.args.self.now r)
