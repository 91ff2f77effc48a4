use Rattle.std.proofs.Common.{◌≡◌, ◌+◌, not, ◌&&◌, arith, ap, ◌∙◌}
use Rattle.std.specs.Prelude.{◌==◌, nat_le, count_ones}
use Rattle.std.specs.Int.{from_bool}
use Rattle.ledger_model.specs.Values.{same_value}
use Rattle.tally.specs.Tallies.{all_read, count_where}
use Rattle.tally.specs.ReportMasks.{begins_with}
use Rattle.tally.specs.Readings.{reports_of}
use Rattle.tally.proofs.MaskBits.{mask_ones}
use Rattle.proper_sets.specs.Propriety.{initials}
use Rattle.proper_sets.proofs.Counts.{initials_counted}
use Rattle.proper_sets.proofs.reported.Absorption.is_rare.Goals as goal

pub returns : goal.returns
returns c = λ is.
    let own = c.args.self.now.own in
    let places = c.args.self.now.reports.now in
    let v = c.args.value.now in
    let others : count_ones c.others-others.result ≡ count_where (λ s. not (s.report.signer == own) && begins_with v s) (all_read places) =
    ap count_ones (c.others-others.ensures (begins_with v) is) ∙ mask_ones (λ s. not (s.report.signer == own) && begins_with v s) places in
    let all = initials_counted own c.args.self.now.initial.now (same_value v) places in
    let one : c.from.result ≡ from_bool (same_value v c.args.self.now.initial.now) = c.from.ensures ∙ ap from_bool c.eq.ensures in
    let total : count_ones c.others-others.result + c.from.result
    ≡ count_where (same_value v) (initials own c.args.self.now.initial.now (reports_of (all_read places))) =
    omega (arith, others, all, one) in
    rw c.from-2.ensures (ap (λ n. nat_le n c.args.self.now.config.now.faults) total)
