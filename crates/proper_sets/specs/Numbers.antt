-- The numbered values that reports of others contain, one by one.
use Rattle.std.specs.Prelude.{ℕ, ◌==◌, nat_le, Bool, false, not, ◌&&◌, List, map, filter, Option, Some, None, if◌then◌else◌}
use Rattle.std.specs.List.{list_any}
use Rattle.std.specs.Option.{option_map_or}
use Rattle.ledger_model.specs.declared.config.Config.{Config}
use Rattle.ledger_model.specs.declared.statement.SignedReport.{SignedReport}
use Rattle.ledger_model.specs.Values.{Value, same_value}
use Rattle.tally.specs.Tallies.{Places, all_read, count_where}
use Rattle.tally.specs.ReportMasks.{begins_with, lists_proper, numbered_value}
use Rattle.tally.specs.Readings.{reports_of}
use Rattle.tally.specs.declared.reported_value.ReportedValue.{ReportedValue}
use Rattle.proper_sets.specs.Propriety.{initials, is_named_by}

-- the value, if the report of another replica than id contains it as the test says
abbrev pub if_of_other : ℕ → (Value → SignedReport → Bool) → Places SignedReport → Option Value → Option Value
if_of_other id test places None = None
if_of_other id test places (Some v) =
    if list_any (λ s. not (s.report.signer == id) && test v s) (all_read places) then Some v else None

abbrev pub of_other : ℕ → (Value → SignedReport → Bool) → Places SignedReport → ReportedValue → Option Value
of_other id test places e = if_of_other id test places (numbered_value places e)

-- the value, if more than t others name it
abbrev pub if_named : Config → ℕ → Places SignedReport → Option Value → Option Value
if_named config id places None = None
if_named config id places (Some v) = if is_named_by config id (reports_of (all_read places)) v then Some v else None

-- the value, if the report of another lists it as proper and more than t others name it
abbrev pub named : Config → ℕ → Places SignedReport → ReportedValue → Option Value
named config id places e = if_named config id places (of_other id lists_proper places e)

-- the value is the initial one of at most t replicas
abbrev pub is_rare : Config → ℕ → Value → Places SignedReport → Value → Bool
is_rare config id own places v = nat_le (count_where (same_value v) (initials id own (reports_of (all_read places)))) config.faults

-- the initial values that others report
abbrev pub initials_of_others : ℕ → Places SignedReport → List Value
initials_of_others id places = map (λ p. p.initial) (filter (λ p. not (p.signer == id)) (reports_of (all_read places)))

-- the value is the initial one of another, and of more than t replicas in all
abbrev pub is_common : Config → ℕ → Value → Places SignedReport → ReportedValue → Bool
is_common config id own places e = option_map_or (λ v. not (is_rare config id own places v)) (of_other id begins_with places e) false
