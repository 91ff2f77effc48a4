use Rattle.std.proofs.Common.{Bool, true, false, not, ◌&&◌, ◌+◌, sym, ap, ◌∙◌, ◌≡◌, refl}
use Rattle.std.specs.Prelude.{◌==◌, count_ones}
use Rattle.std.proofs.Math.Bool.{and-true}
use Rattle.tally.specs.Tallies.{all_read}
use Rattle.tally.proofs.Counts.{count_where-same}
use Rattle.tally.proofs.MaskBits.{mask_ones}
use Rattle.proper_sets.proofs.Counts.{initials_known}
use Rattle.proper_sets.proofs.reported.Absorption.known.Goals as goal

pub returns : goal.returns
returns c =
    let own = c.args.self.now.own in
    let places = c.args.self.now.reports.now in
    ap (λ m. count_ones m + 1) (c.others.ensures (λ s. true) c.mask.ensures.mask)
    ∙ ap (λ n. n + 1) (mask_ones (λ s. not (s.report.signer == own) && true) places
    ∙ count_where-same (λ s. not (s.report.signer == own) && true) (λ s. not (s.report.signer == own)) (all_read places)
    (λ s has. and-true (not (s.report.signer == own))))
    ∙ sym (initials_known own c.args.self.now.initial.now places)
