use Rattle.std.proofs.Common.{Bool, true, false, not, ◌&&◌, ap, ◌∙◌, ◌≡◌, refl}
use Rattle.std.specs.Prelude.{◌==◌, nat_eq}
use Rattle.std.specs.List.{list_any}
use Rattle.tally.specs.Tallies.{all_read}
use Rattle.tally.proofs.MaskBits.{mask_any}
use Rattle.proper_sets.proofs.reported.Absorption.has_other.Goals as goal

twice : (b : Bool) → not (not b) ≡ b
twice true = refl
twice false = refl

pub returns : goal.returns
returns c = λ test is.
    ap (λ m. not (nat_eq m 0)) (c.others.ensures test is)
    ∙ ap not (mask_any (λ s. not (s.report.signer == c.args.self.now.own) && test s) c.args.self.now.reports.now)
    ∙ twice (list_any (λ s. not (s.report.signer == c.args.self.now.own) && test s) (all_read c.args.self.now.reports.now))
