use Rattle.std.proofs.Common.{◌≡◌, take}
use Rattle.std.specs.Prelude.{None, option_copied}
use Rattle.std.specs.List.{filter_map}
use Rattle.tally.specs.Tallies.{all_read}
use Rattle.tally.specs.Readings.{reports_of}
use Rattle.phase_core.specs.Choices.{is_found_by}
use Rattle.phase_core.specs.Least.{least_of, listed}
use Rattle.phase_core.proofs.choice.least_found.Given as goal

abbrev pub invariant-loop-reported : goal.invariant-loop-reported
invariant-loop-reported l =
    option_copied l.least
    ≡ least_of (is_found_by l.fn.config (reports_of (all_read l.fn.reports))) None
    (filter_map (listed l.fn.reports) (take l.reported-index l.reported-items))
