-- Values in the notes of a phase, and in the reports that were read in it.
use Rattle.std.proofs.Common.{◌≡◌, ℕ, Bool, true, false, ◌&&◌, ◌||◌, inl, inr, List, [], ◌∷◌, ◌++◌, sym, subst, ◌∙◌, cond}
use Rattle.std.specs.Prelude.{nat_eq}
use Rattle.std.specs.List.{list_any, flat_map}
use Rattle.std.proofs.lemmas.Bool.{false≢true, or_cases, or_left, or_right}
use Rattle.ledger_model.specs.declared.config.Config.{Config}
use Rattle.ledger_model.specs.declared.statement.Report.{Report}
use Rattle.ledger_model.specs.declared.statement.Statement.{Statement}
use Rattle.ledger_model.specs.declared.statement.Statement.TheVariants as statement
use Rattle.ledger_model.specs.Rounds.{round_at, report_place}
use Rattle.ledger_model.specs.Notes.{Note, Proposed, Round, OwnStatement, Read, Retired, Has, is_report, was_read}
use Rattle.ledger_model.specs.Values.{Value, same_value}
use Rattle.ledger_model.specs.Proper.{values_in}
use Rattle.tally.specs.Readings.{AreReadIn}
use Rattle.ledger_model.proofs.Lists.{any_has, has_any, has_left, has_right, has_cases, flat_map_has, has_flat_map, same_value-refl}
use Rattle.ledger_model.proofs.Lists.{same_value-equal}

module _ (part : Report → List Value) (k : ℕ) where
  abbrev lists : Value → Report → Bool
  lists v p = list_any (same_value v) (part p)

  lists_from : (v : Value) (p : Report) → Has (part p) v → lists v p ≡ true
  lists_from v p h = has_any (same_value v) (part p) v h (same_value-refl v)

  lists_has : (v : Value) (p : Report) → lists v p ≡ true → Has (part p) v
  lists_has v p e = let y = any_has (same_value v) (part p) e in subst (Has (part p)) (sym (same_value-equal v y.0 y.1.1)) y.1.0

  -- a value in the notes was read
  read_note : (c : ℕ) (s : Statement) (signature : List ℕ) (log : List Note) (v : Value)
      → (Has (values_in part k log) v → was_read log (round_at report_place k) (is_report (lists v)) ≡ true)
      → Has (values_in part k (Read c (record { statement = s; signature = signature }) ∷ log)) v
      → was_read (Read c (record { statement = s; signature = signature }) ∷ log) (round_at report_place k) (is_report (lists v)) ≡ true
  read_note c (statement.Report p) signature log v rest h =
      (elim (nat_eq c (round_at report_place k))
      as (λ b. Has (cond b (part p) [] ++ values_in part k log) v
      → (b && lists v p || was_read log (round_at report_place k) (is_report (lists v))) ≡ true) [
        | true ↦ λ x. elim (has_cases (part p) (values_in part k log) v x) [
          | inl here ↦ or_left (lists v p) (was_read log (round_at report_place k) (is_report (lists v))) (lists_from v p here)
          | inr later ↦ or_right (lists v p) (was_read log (round_at report_place k) (is_report (lists v))) (rest later)
        ]
        | false ↦ rest
      ]) h
  read_note c (statement.Lock l) signature log v rest h =
      (elim (nat_eq c (round_at report_place k))
      as (λ b. Has (cond b [] [] ++ values_in part k log) v
      → (b && false || was_read log (round_at report_place k) (is_report (lists v))) ≡ true) [ true ↦ rest | false ↦ rest ]) h
  read_note c (statement.Ack a) signature log v rest h =
      (elim (nat_eq c (round_at report_place k))
      as (λ b. Has (cond b [] [] ++ values_in part k log) v
      → (b && false || was_read log (round_at report_place k) (is_report (lists v))) ≡ true) [ true ↦ rest | false ↦ rest ]) h

  in_read : (log : List Note) (v : Value) → Has (values_in part k log) v
      → was_read log (round_at report_place k) (is_report (lists v)) ≡ true
  in_read [] v h = absurd h
  in_read (Proposed w ∷ log) v h = in_read log v h
  in_read (Round c ∷ log) v h = in_read log v h
  in_read (OwnStatement c s ∷ log) v h = in_read log v h
  in_read (Retired f ∷ log) v h = in_read log v h
  in_read (Read c s ∷ log) v h = read_note c s.statement s.signature log v (in_read log v) h

  -- and what was read is in the notes
  note_read : (c : ℕ) (s : Statement) (signature : List ℕ) (log : List Note) (v : Value)
      → (was_read log (round_at report_place k) (is_report (lists v)) ≡ true → Has (values_in part k log) v)
      → was_read (Read c (record { statement = s; signature = signature }) ∷ log) (round_at report_place k) (is_report (lists v)) ≡ true
      → Has (values_in part k (Read c (record { statement = s; signature = signature }) ∷ log)) v
  note_read c (statement.Report p) signature log v rest h =
      (elim (nat_eq c (round_at report_place k))
      as (λ b. (b && lists v p || was_read log (round_at report_place k) (is_report (lists v))) ≡ true
      → Has (cond b (part p) [] ++ values_in part k log) v) [
        | true ↦ λ x. elim (or_cases (lists v p) (was_read log (round_at report_place k) (is_report (lists v))) x) [
          | inl here ↦ has_left (part p) (values_in part k log) v (lists_has v p here)
          | inr later ↦ has_right (part p) (values_in part k log) v (rest later)
        ]
        | false ↦ rest
      ]) h
  note_read c (statement.Lock l) signature log v rest h =
      (elim (nat_eq c (round_at report_place k))
      as (λ b. (b && false || was_read log (round_at report_place k) (is_report (lists v))) ≡ true
      → Has (cond b [] [] ++ values_in part k log) v) [ true ↦ rest | false ↦ rest ]) h
  note_read c (statement.Ack a) signature log v rest h =
      (elim (nat_eq c (round_at report_place k))
      as (λ b. (b && false || was_read log (round_at report_place k) (is_report (lists v))) ≡ true
      → Has (cond b [] [] ++ values_in part k log) v) [ true ↦ rest | false ↦ rest ]) h

  was_in : (log : List Note) (v : Value) → was_read log (round_at report_place k) (is_report (lists v)) ≡ true
      → Has (values_in part k log) v
  was_in [] v h = absurd (false≢true h)
  was_in (Proposed w ∷ log) v h = was_in log v h
  was_in (Round c ∷ log) v h = was_in log v h
  was_in (OwnStatement c s ∷ log) v h = was_in log v h
  was_in (Retired f ∷ log) v h = was_in log v h
  was_in (Read c s ∷ log) v h = note_read c s.statement s.signature log v (was_in log v) h

  module _ (config : Config) (log : List Note) (reports : List Report) (read : AreReadIn config log k reports) where
    -- the values in the notes are those of the reports
    pub values_read : (v : Value) → Has (values_in part k log) v → Has (flat_map part reports) v
    values_read v h =
        let found = any_has (lists v) reports (sym (read.same (lists v)) ∙ in_read log v h) in
        has_flat_map part reports found.0 v found.1.0 (lists_has v found.0 found.1.1)

    pub values_noted : (v : Value) → Has (flat_map part reports) v → Has (values_in part k log) v
    values_noted v h =
        let found = flat_map_has part reports v h in
        was_in log v (read.same (lists v) ∙ has_any (lists v) reports found.0 found.1.0 (lists_from v found.0 found.1.1))
