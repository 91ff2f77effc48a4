-- The least value that passes a test, found value by value.
use Rattle.std.specs.Prelude.{Bool, ◌&&◌, nat_eq, List, [], ◌∷◌, ◌++◌, Option, Some, None, if◌then◌else◌}
use Rattle.std.specs.List.{flat_map}
use Rattle.ledger_model.specs.declared.config.Config.{Config}
use Rattle.ledger_model.specs.declared.statement.Report.{Report}
use Rattle.ledger_model.specs.declared.statement.SignedReport.{SignedReport}
use Rattle.ledger_model.specs.Values.{Value, is_below}
use Rattle.tally.specs.Tallies.{Places, all_read}
use Rattle.tally.specs.Readings.{reports_of}
use Rattle.tally.specs.ReportMasks.{numbered_value}
use Rattle.tally.specs.declared.reported_value.ReportedValue.{ReportedValue}
use Rattle.phase_core.specs.Choices.{is_found_by}

-- the values that reports list as proper or as locked
abbrev pub values_named : List Report → List Value
values_named reports = flat_map (λ p. p.proper ++ p.locked) reports

-- the value, if a report lists it as proper or as locked
abbrev pub listed : Places SignedReport → ReportedValue → Option Value
listed places e = if nat_eq e.masks.proper 0 && nat_eq e.masks.locked 0 then None else numbered_value places e

-- the value, if a quorum's reports find it
abbrev pub if_found : Config → Places SignedReport → Option Value → Option Value
if_found config places None = None
if_found config places (Some v) = if is_found_by config (reports_of (all_read places)) v then Some v else None

-- the value, if a report lists it as proper or as locked and a quorum's reports find it
abbrev pub found : Config → Places SignedReport → ReportedValue → Option Value
found config places e = if_found config places (listed places e)

-- the lesser of the least value so far and v
abbrev pub least_with : Option Value → Value → Option Value
least_with None v = Some v
least_with (Some w) v = if is_below v w then Some v else Some w

-- the least of what was found before and the values of the list that pass the test
abbrev pub least_of : (Value → Bool) → Option Value → List Value → Option Value
least_of test before [] = before
least_of test before (v ∷ vs) = least_of test (if test v then least_with before v else before) vs
