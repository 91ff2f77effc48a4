use Rattle.std.proofs.Common.{◌≡◌, ◌++◌}
use Rattle.std.specs.Prelude.{map, take, drop}
use Rattle.tally.specs.ReportMasks.{marked}
use Rattle.tally.proofs.report_counts.mark_values.Given as goal

abbrev pub invariant-loop-reported : goal.invariant-loop-reported
invariant-loop-reported l =
    l.values ≡ map (marked l.tally l.signed l.bit) (take l.reported-index l.initial.values) ++ drop l.reported-index l.initial.values
