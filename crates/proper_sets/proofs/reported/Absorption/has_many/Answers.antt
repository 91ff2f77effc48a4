use Rattle.std.proofs.Common.{not, ◌&&◌, ap, ◌∙◌}
use Rattle.std.specs.Prelude.{◌==◌, nat_lt, count_ones}
use Rattle.tally.proofs.MaskBits.{mask_ones}
use Rattle.proper_sets.proofs.reported.Absorption.has_many.Goals as goal

pub returns : goal.returns
returns c = λ test is.
    ap (λ n. nat_lt n (count_ones c.others.result)) c.from.ensures
    ∙ ap (λ m. nat_lt c.args.self.now.config.now.faults (count_ones m)) (c.others.ensures test is)
    ∙ ap (nat_lt c.args.self.now.config.now.faults)
    (mask_ones (λ s. not (s.report.signer == c.args.self.now.own) && test s) c.args.self.now.reports.now)
