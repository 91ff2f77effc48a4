-- The values that the reports of one phase contain, and masks of the replicas whose reports contain a value.
use Rattle.std.specs.Prelude.{◌≡◌, ℕ, ◌*◌, ◌^◌, ◌≤◌, nat_eq, zero, suc, Bool, true, false, List, [], ◌∷◌, ◌++◌, length, map, Option}
use Rattle.std.specs.Prelude.{Some, None}
use Rattle.std.specs.Prelude.{slice_get, bit_or, if◌then◌else◌}
use Rattle.std.specs.List.{list_any, list_all}
use Rattle.std.specs.Option.{option_map_or}
use Rattle.ledger_model.specs.declared.statement.Report.{Report}
use Rattle.ledger_model.specs.declared.statement.SignedReport.{SignedReport}
use Rattle.ledger_model.specs.Notes.{Has}
use Rattle.ledger_model.specs.Values.{Value, same_value}
use Rattle.tally.specs.Tallies.{Places, all_read, read_of, count_where}
use Rattle.tally.specs.Masks.{mask_of}
use Rattle.tally.specs.declared.report_counts.ReportCounts.{ReportCounts}
use Rattle.tally.specs.declared.reported_value.ReportedValue.{ReportedValue}
use Rattle.tally.specs.declared.reported_value.ValueMasks.{ValueMasks}

-- ---- one report

-- the values that a report contains: its initial one, the proper ones, and those that it lists locks on
abbrev pub values_within : Report → List Value
values_within p = p.initial ∷ (p.proper ++ p.locked)

-- the value is the initial one of the report
abbrev pub begins_with : Value → SignedReport → Bool
begins_with v s = same_value v s.report.initial

-- the report lists the value as proper
abbrev pub lists_proper : Value → SignedReport → Bool
lists_proper v s = list_any (same_value v) s.report.proper

-- the report lists a lock on the value
abbrev pub lists_lock : Value → SignedReport → Bool
lists_lock v s = list_any (same_value v) s.report.locked

-- the report lists no lock
abbrev pub holds_none : SignedReport → Bool
holds_none s = nat_eq (length s.report.locked) 0

-- the report lists locks, all on one value
abbrev pub holds_one : SignedReport → Bool
holds_one s = option_map_or (λ v. list_all (same_value v) s.report.locked) (slice_get s.report.locked 0) false

-- ---- where a value is, and which reports contain it

-- the value at this index of those within the report of replica r, if there is one
abbrev pub listed_value : Places SignedReport → ℕ → ℕ → Option Value
listed_value places r i = option_map_or (λ s. slice_get (values_within s.report) i) (read_of places r) None

-- the value that was numbered
abbrev pub numbered_value : Places SignedReport → ReportedValue → Option Value
numbered_value places e = listed_value places e.signer e.index

-- this value was numbered
abbrev pub is_of : Places SignedReport → Value → ReportedValue → Bool
is_of places v e = option_map_or (same_value v) (numbered_value places e) false

-- the value has a number
unfoldable pub is_numbered : Places SignedReport → List ReportedValue → Value → Bool
is_numbered places values v = list_any (is_of places v) values

-- these are the masks of the replicas whose reports contain the value
pub record AreMasksOf (places : Places SignedReport) (v : Value) (m : ValueMasks) : Type 0 where
  pub initial : m.initial ≡ mask_of (begins_with v) places
  pub proper : m.proper ≡ mask_of (lists_proper v) places
  pub locked : m.locked ≡ mask_of (lists_lock v) places

-- the value is within one of the reports, and its masks are those of the read ones
pub record IsReported (places read : Places SignedReport) (e : ReportedValue) : Type 0 where
  pub value : Value
  pub is_there : numbered_value places e ≡ Some value
  pub masks : AreMasksOf read value e.masks

-- each value that the read reports contain has a number
abbrev pub AreAllNumbered : Places SignedReport → Places SignedReport → List ReportedValue → Type 0
AreAllNumbered places read values =
    (r : ℕ) (s : SignedReport) → read_of read r ≡ Some s → (v : Value) → Has (values_within s.report) v → is_numbered places values v ≡ true

-- the numbered values are those that the reports contain, each once
pub record AreValuesOf (places : Places SignedReport) (values : List ReportedValue) : Type 0 where
  pub each : (e : ReportedValue) → Has values e → IsReported places places e
  pub every : AreAllNumbered places places values
  pub once : (v : Value) → count_where (is_of places v) values ≤ 1

-- each report is at the place of its signer
abbrev pub AreAtSigners : Places SignedReport → Type 0
AreAtSigners places = (r : ℕ) (s : SignedReport) → read_of places r ≡ Some s → s.report.signer ≡ r

-- the numbers and masks are those of the reports
pub record AreCounted (places : Places SignedReport) (counts : ReportCounts) : Type 0 where
  pub signers : AreAtSigners places
  pub values : AreValuesOf places counts.values.items
  pub all : counts.all ≡ mask_of (λ s. s.report.all) places
  pub free : counts.free ≡ mask_of holds_none places
  pub single : counts.single ≡ mask_of holds_one places
  pub few : length counts.values.items ≤ 9 * length (all_read places)

-- ---- one report more

-- a mask with the bit set, if it is to be
abbrev pub with_bit : ℕ → Bool → ℕ → ℕ
with_bit mask set bit = bit_or mask (if set then bit else 0)

-- a value that no report was found to contain
abbrev pub unmarked : ℕ → ℕ → ReportedValue
unmarked r i = record { signer = r; index = i; masks = record { initial = 0; proper = 0; locked = 0 } }

-- the values, with that at this index of the report of replica r, if it had no number
abbrev pub with_number : Places SignedReport → ℕ → ℕ → List ReportedValue → List ReportedValue
with_number places r i values =
    if option_map_or (is_numbered places values) (listed_value places r i) true then values else values ++ unmarked r i ∷ []

-- the values, with the first n of the report of replica r
abbrev pub with_numbers : Places SignedReport → ℕ → ℕ → List ReportedValue → List ReportedValue
with_numbers places r zero values = values
with_numbers places r (suc n) values = with_number places r n (with_numbers places r n values)

-- the masks of a value, with a report
abbrev pub marked_by : SignedReport → ℕ → Value → ValueMasks → ValueMasks
marked_by s bit v m = record {
  initial = with_bit m.initial (begins_with v s) bit;
  proper = with_bit m.proper (lists_proper v s) bit;
  locked = with_bit m.locked (lists_lock v s) bit;
}

-- a numbered value, with a report
abbrev pub marked : Places SignedReport → SignedReport → ℕ → ReportedValue → ReportedValue
marked places s bit e = record e { masks = option_map_or (λ v. marked_by s bit v e.masks) (numbered_value places e) e.masks }

-- the counts, with the report of replica r
pub record IsCountedWith (places : Places SignedReport) (r : ℕ) (s : SignedReport) (old new : ReportCounts) : Type 0 where
  pub values : new.values.items
      ≡ map (marked places s (2 ^ r)) (with_numbers places r (length (values_within s.report)) old.values.items)
  pub all : new.all ≡ with_bit old.all s.report.all (2 ^ r)
  pub free : new.free ≡ with_bit old.free (holds_none s) (2 ^ r)
  pub single : new.single ≡ with_bit old.single (holds_one s) (2 ^ r)
