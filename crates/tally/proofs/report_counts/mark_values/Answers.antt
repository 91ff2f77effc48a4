use Rattle.std.proofs.Common.{◌≡◌, ℕ, Some, None, sym, ap, ◌∙◌, get_or}
use Rattle.std.specs.Prelude.{slice_set}
use Rattle.std.specs.Option.{option_map_or, option_copied}
use Rattle.std.proofs.lemmas.List.Edits.{map_over_more}
use Rattle.ledger_model.specs.declared.statement.SignedReport.{SignedReport}
use Rattle.ledger_model.specs.Values.{Value}
use Rattle.tally.specs.Tallies.{Places}
use Rattle.tally.specs.ReportMasks.{numbered_value, marked_by, marked}
use Rattle.tally.specs.declared.reported_value.ReportedValue.{ReportedValue}
use Rattle.tally.specs.declared.reported_value.ValueMasks.{ValueMasks}
use Rattle.tally.proofs.report_counts.mark_values.Goals as goal
use Rattle.tally.proofs.report_counts.mark_values.Goals.{in-Some, in_default}

-- a numbered value that is there gets the bits, and another stays as it is
marked_there : (places : Places SignedReport) (s : SignedReport) (bit : ℕ) (x y : ReportedValue) (v : Value) (m : ValueMasks) → x ≡ y
    → numbered_value places y ≡ Some v → m ≡ marked_by s bit v y.masks
    → record { signer = y.signer; index = y.index; masks = m } ≡ marked places s bit x
marked_there places s bit x y v m same there is =
    ap (λ n. record { signer = y.signer; index = y.index; masks = n })
    (is ∙ sym (ap (λ o. option_map_or (λ u. marked_by s bit u y.masks) o y.masks) there))
    ∙ ap (marked places s bit) (sym same)

unmarked_there : (places : Places SignedReport) (s : SignedReport) (bit : ℕ) (x y : ReportedValue) → x ≡ y → numbered_value places y ≡ None
    → y ≡ marked places s bit x
unmarked_there places s bit x y same none =
    sym (ap (λ o. record { signer = y.signer; index = y.index; masks = option_map_or (λ u. marked_by s bit u y.masks) o y.masks }) none)
    ∙ ap (marked places s bit) (sym same)

pub loop-reported-preserved : goal.loop-reported-preserved
loop-reported-preserved c =
    let item = get_or c.loop-reported.values c.loop-reported.reported-index c.reported-item.result in
    let more = map_over_more (marked c.args.tally.now c.args.signed.now c.args.bit) c.args.values.now c.loop-reported.values
    c.loop-reported.reported-index c.reported-item.result c.loop-reported-test.true c.loop-reported.invariant c.reported-item.is in
    elim c.match-value_of.branch [
      | in-Some w ↦
          w.values-is
          ∙ ap (slice_set c.loop-reported.values c.loop-reported.reported-index)
          (marked_there c.args.tally.now c.args.signed.now c.args.bit c.reported-item.result item w.in-Some.value.now
          w.marked_by-reported.result
          c.reported-item.is (sym c.value_of.ensures ∙ ap option_copied w.in-Some.is) w.marked_by-reported.ensures)
          ∙ more
      | in_default w ↦
          w.values-is
          ∙ ap (slice_set c.loop-reported.values c.loop-reported.reported-index)
          (unmarked_there c.args.tally.now c.args.signed.now c.args.bit c.reported-item.result item c.reported-item.is
          (sym c.value_of.ensures ∙ ap option_copied w.in_default.is))
          ∙ more
    ]
