use Rattle.std.proofs.Common.{not, ◌&&◌, ap}
use Rattle.std.specs.Prelude.{◌==◌}
use Rattle.tally.proofs.MaskBits.{mask_others}
use Rattle.proper_sets.proofs.reported.Absorption.others.Goals as goal

pub returns : goal.returns
returns c = λ test is.
    mask_others test (λ s. not (s.report.signer == c.args.self.now.own)
    && test s) c.args.self.now.reports.now c.args.self.now.own c.args.mask
    c.without.result c.without.ensures is (λ r s there. ap (λ n. not (n == c.args.self.now.own)
    && test s) (c.mask.ensures.signers r s there))
