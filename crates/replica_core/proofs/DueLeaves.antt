-- The statements that the core finds due are those that the history makes due.
use Rattle.ledger_model.specs.Meanings.{Meanings}
use Rattle.std.proofs.Common.{◌≡◌, ℕ, zero, suc, ◌+◌, ◌<◌, ◌≤◌, Bool, true, false, not, ◌&&◌, inl, inr, List, [], ◌∷◌, ◌++◌, refl, sym, ap}
use Rattle.std.proofs.Common.{subst, ◌∙◌, arith, eq-eqb}
use Rattle.std.specs.Prelude.{nat_eq, ◌==◌, Option, Some, None, is_some, if◌then◌else◌}
use Rattle.std.specs.List.{AllByRecursion}
use Rattle.std.specs.Option.{option_map_or}
use Rattle.std.proofs.lemmas.Bool.{cases_Bool, eqb-true, ne_eqb, false_from_ne_true}
use Rattle.ledger_model.specs.Limits.{max_height}
use Rattle.ledger_model.specs.declared.config.Config.{Config}
use Rattle.ledger_model.specs.declared.history.Entry.{Entry}
use Rattle.ledger_model.specs.declared.statement.Report.{Report}
use Rattle.ledger_model.specs.Values.{Value}
use Rattle.ledger_model.specs.Rounds.{phase_of, place_of, owner_of, count_from, report_place}
use Rattle.ledger_model.specs.Notes.{Note, Has, clock_of, open_of}
use Rattle.ledger_model.specs.Locks.{is_supported}
use Rattle.ledger_model.specs.Logs.{log_of}
use Rattle.ledger_model.specs.Proper.{values_in}
use Rattle.ledger_model.specs.Lawful.{clock_at}
use Rattle.ledger_model.specs.Rules.{Ring}
use Rattle.tally.specs.Readings.{reports_of}
use Rattle.phase_core.specs.Choices.{is_found_by, chosen}
use Rattle.tally.specs.Tallies.{all_read}
use Rattle.ledger_model.proofs.Lists.{any_has, has_any}
use Rattle.proper_sets.proofs.LogValues.{values_noted}
use Rattle.phase_core.proofs.Choosing.{chosen_found, none_chosen, chosen_named}
use Rattle.phase_core.proofs.Logs.{found_is_supported}
use Rattle.instance.specs.Instances.{InstanceView}
use Rattle.instance.specs.Matching.{MatchesLog, MatchesIn}
use Rattle.instance.specs.Plans.{chosen_statement, chosen_lock, sent_ack}
use Rattle.ledger_model.proofs.AtPlace.{at_place, at_reports, at_lock, at_acks, at_release}
use Rattle.instance.proofs.KeptPlaces.{are_read_in}
use Rattle.height_row.specs.Heights.{row_at, AreAscending}
use Rattle.replica_core.specs.Replays.{ReplayView, IsWithinLimits, MatchesHistory}
use Rattle.replica_core.specs.RoundEnds.{due}
use Rattle.replica_core.specs.Leaves.{is_some_supported, is_due, due_within, due_by}
use Rattle.replica_core.proofs.AscendingRows.{each_found}
use Rattle.replica_core.proofs.Unopened.{closed_there}

-- ---- at one height

module _ (ring : Ring) (row : InstanceView) (log : List Note) (m : MatchesLog ring row log) where
  abbrev c : ℕ
  c = clock_of log + 1

  abbrev k : ℕ
  k = phase_of (clock_of log + 1)

  -- the phase goes on where the round is not its first
  now_in : (place_of c ≡ report_place → ⊥) → MatchesIn ring row log k
  now_in later = subst (MatchesIn ring row log) (omega (arith, later)) m

  module _ (now : MatchesIn ring row log (phase_of (clock_of log + 1))) where
    abbrev reports : List Report
    reports = reports_of (all_read row.reports)

    supported : (v : Value) → is_found_by row.config reports v ≡ is_supported row.config log k v
    supported = found_is_supported row.config log k reports (are_read_in ring row log k now)

    -- a value is chosen just where some value is supported
    choice_due : (o : Option Value) → chosen row.config reports row.proper.own ≡ o
        → is_some o ≡ is_some_supported row.config log k row.proper.own
    choice_due None is = sym (false_from_ne_true (is_some_supported row.config log k row.proper.own) (λ some.
        let found = any_has (is_supported row.config log k) (row.proper.own ∷ values_in (λ p. p.proper ++ p.locked) k log) some in
        let none = none_chosen row.config reports row.proper.own is found.0 in
        absurd (let no = supported found.0 in let yes = found.1.1 in cc)))
    choice_due (Some v) is =
        sym (has_any (is_supported row.config log k) (row.proper.own ∷ values_in (λ p. p.proper ++ p.locked) k log) v there
        (sym (supported v) ∙ chosen_found row.config reports row.proper.own v is))
      where
        there : Has (row.proper.own ∷ values_in (λ p. p.proper ++ p.locked) k log) v
        there = elim (chosen_named row.config reports row.proper.own v is) [
          | inl own ↦ inl own
          | inr shown ↦ inr (values_noted (λ p. p.proper ++ p.locked) k row.config log reports (are_read_in ring row log k now) v shown)
        ]

  -- a lock is made of the value that is chosen
  lock_there : (o : Option Value) → is_some (chosen_lock row k o) ≡ is_some o
  lock_there None = refl
  lock_there (Some v) = refl

  -- an acknowledgement is sent to another owner
  ack_there : (o : Option Value) → is_some (sent_ack row k o) ≡ (not (owner_of row.config k == row.id) && is_some o)
  ack_there o = grind arith

  -- what is chosen is due by the log
  choice_is : is_some (chosen_statement row c) ≡ is_due row.config row.id log c
  unfolding chosen_statement is_due
  choice_is = rw m.opened (elim (at_place c) [
    | at_reports e ↦ rw e refl
    | at_lock e ↦ elim (cases_Bool (nat_eq (owner_of row.config k) row.id)) [
      | inl mine ↦ rw (e, mine) (lock_there (chosen row.config (reports_of (all_read row.reports)) row.proper.own)
          ∙ choice_due (now_in (λ f. omega (arith, e, f))) (chosen row.config (reports_of (all_read row.reports)) row.proper.own) refl)
      | inr other ↦ rw (e, other) refl
    ]
    | at_acks e ↦ rw e (ack_there row.taken
        ∙ ap (λ o. not (owner_of row.config k == row.id) && is_some o) (now_in (λ f. omega (arith, e, f))).lock.taken)
    | at_release e ↦ rw e refl
  ])

-- at a clock that is given
choice_at : (ring : Ring) (row : InstanceView) (log : List Note) (n : ℕ) → MatchesLog ring row log → clock_of log ≡ n
    → is_some (chosen_statement row (n + 1)) ≡ is_due row.config row.id log (n + 1)
choice_at ring row log n matches clock =
    subst (λ n. is_some (chosen_statement row (n + 1)) ≡ is_due row.config row.id log (n + 1)) clock (choice_is ring row log matches)

-- a height that isn't open
none_due : (config : Config) (id : ℕ) (log : List Note) (c : ℕ) → open_of log ≡ None → is_due config id log c ≡ false
unfolding is_due
none_due config id log c closed = rw closed refl

-- ---- over all heights

-- whether a statement is chosen there, if the height is open
abbrev is_chosen : ℕ → Option InstanceView → Bool
is_chosen c o = option_map_or (λ row. is_some (chosen_statement row c)) o false

-- what is kept of the first height, and of another one
row_here : (row : InstanceView) (rows : List InstanceView) (h : ℕ) → row.height ≡ h → row_at (row ∷ rows) h ≡ Some row
row_here row rows h is = rw (eq-eqb row.height h is) refl

row_apart : (row : InstanceView) (rows : List InstanceView) (h : ℕ) → (row.height ≡ h → ⊥) → row_at (row ∷ rows) h ≡ row_at rows h
row_apart row rows h apart = rw (ne_eqb row.height h apart) refl

-- no height below the first is open
none_below : (a : ℕ) (rows : List InstanceView) → AllByRecursion (λ row. a < row.height) rows → row_at rows a ≡ None
none_below a [] above = refl
none_below a (row ∷ rows) above =
    let higher = above.0 in
    row_apart row rows a (λ e. omega (arith, e, higher)) ∙ none_below a rows above.1

-- the heights are among the n from a on
abbrev AreWithin : ℕ → ℕ → List InstanceView → Type 0
AreWithin a n rows = AllByRecursion (λ row. (a ≤ row.height) × (row.height < a + n)) rows

-- without the first height, where it is not open
later : (a n : ℕ) (rows : List InstanceView) → AreWithin a (suc n) rows → AllByRecursion (λ row. a < row.height) rows
    → AreWithin (a + 1) n rows
later a n [] within above = tt
later a n (row ∷ rows) within above =
    let low = above.0 in
    let high = within.0.1 in
    ((omega (arith, low), omega (arith, high)), later a n rows within.1 above.1)

above_first : (a h : ℕ) (rows : List InstanceView) → a ≤ h → AllByRecursion (λ row. h < row.height) rows
    → AllByRecursion (λ row. a < row.height) rows
above_first a h [] low above = tt
above_first a h (row ∷ rows) low above = (let higher = above.0 in omega (arith, low, higher), above_first a h rows low above.1)

-- the count goes over the open heights
count_open : (round : ℕ) (test : ℕ → Bool) (n a : ℕ) (rows : List InstanceView) → AreAscending rows → AreWithin a n rows
    → ((h : ℕ) → a ≤ h → test h ≡ is_chosen round (row_at rows h))
    → count_from a n test ≡ due round rows
count_open round test zero a [] ascend within fits = refl
count_open round test zero a (row ∷ rows) ascend within fits =
    absurd (let low = within.0.0 in let high = within.0.1 in omega (arith, low, high))
count_open round test (suc n) a [] ascend within fits =
    let none = fits a (omega arith) in
    let rest = count_open round test n (a + 1) [] tt tt (λ h low. fits h (omega (arith, low))) in
    rw none (omega (arith, rest))
count_open round test (suc n) a (row ∷ rows) ascend within fits = elim (cases_Bool (nat_eq row.height a)) [
  | inl here ↦
      let is = eqb-true row.height a here in
      let first : test a ≡ is_some (chosen_statement row round) = fits a (omega arith) ∙ ap (is_chosen round) (row_here row rows a is) in
      let above : AllByRecursion (λ r. a < r.height) rows = subst (λ h. AllByRecursion (λ r. h < r.height) rows) is ascend.0 in
      let rest = count_open round test n (a + 1) rows ascend.1 (later a n rows within.1 above)
      (λ h low. fits h (omega (arith, low)) ∙ ap (is_chosen round) (row_apart row rows h (λ e. omega (arith, e, is, low)))) in
      rw first (ap (λ m. (if is_some (chosen_statement row round) then 1 else 0) + m) rest)
  | inr apart ↦
      let low = within.0.0 in
      let higher : a < row.height = omega (arith, low, other row.height a apart) in
      let above : AllByRecursion (λ r. a < r.height) (row ∷ rows) = (higher, above_first a row.height rows low ascend.0) in
      let none : test a ≡ false = fits a (omega arith) ∙ ap (is_chosen round) (none_below a (row ∷ rows) above) in
      let rest = count_open round test n (a + 1) (row ∷ rows) ascend (later a n (row ∷ rows) within above)
      (λ h after. fits h (omega (arith, after))) in
      rw none (omega (arith, rest))
]
  where
    other : (h a : ℕ) → nat_eq h a ≡ false → h ≡ a → ⊥
    other h a apart e = let is = eq-eqb h a e in cc

-- each open height is one of those that can be opened
rows_within : (meaning : Meanings) (held : ReplayView) (entries : List Entry) → IsWithinLimits held → MatchesHistory meaning held entries
    → AreWithin 1 max_height held.rows
rows_within meaning held entries is_held matches =
    each_found (λ row. (1 ≤ row.height) × (row.height < 1 + max_height)) held.rows is_held.ascend (λ h row is.
    let own = is_held.own h row is in
    let low = own.low in
    let of_height = own.height in
    let heights = (matches.opened h row is).sound.spelled.heights in
    (heights.0, omega (arith, low, of_height)))

-- what is due by the history at a height is what is chosen there
due_at : (meaning : Meanings) (held : ReplayView) (entries : List Entry) → IsWithinLimits held → MatchesHistory meaning held entries
    → (h : ℕ) (o : Option InstanceView) → row_at held.rows h ≡ o
    → is_due held.config held.id (log_of held.config held.id h entries) (held.clock + 1) ≡ is_chosen (held.clock + 1) o
due_at meaning held entries is_held matches h None is =
    none_due held.config held.id (log_of held.config held.id h entries) (held.clock + 1) (closed_there meaning held entries matches h is)
due_at meaning held entries is_held matches h (Some row) is =
    let own = is_held.own h row is in
    let log = log_of held.config held.id h entries in
    ap (λ config. is_due config held.id log (held.clock + 1)) (sym own.config)
    ∙ ap (λ id. is_due row.config id log (held.clock + 1)) (sym own.id)
    ∙ sym (choice_at held.ring row log held.clock (matches.opened h row is) (matches.clocks h))

-- as many statements are due by what is kept as by the history
pub due_is : (meaning : Meanings) (held : ReplayView) (entries : List Entry) → IsWithinLimits held → MatchesHistory meaning held entries
    → due (held.clock + 1) held.rows ≡ due_by held.config held.id entries
unfolding due_within
due_is meaning held entries is_held matches =
    sym (count_open (held.clock + 1) (λ h. is_due held.config held.id (log_of held.config held.id h entries) (clock_at entries + 1))
    max_height 1 held.rows
    is_held.ascend (rows_within meaning held entries is_held matches)
    (λ h low. ap (λ n. is_due held.config held.id (log_of held.config held.id h entries) (n + 1)) matches.clock
    ∙ due_at meaning held entries is_held matches h (row_at held.rows h) refl))
