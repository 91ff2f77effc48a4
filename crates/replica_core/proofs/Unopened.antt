-- A height that has no row isn't open: its log contains only rounds, or the height was retired.
use Rattle.ledger_model.specs.Meanings.{Meanings}
use Rattle.std.proofs.Common.{◌≡◌, ℕ, zero, suc, ◌<◌, ◌≤◌, ◌/◌, Bool, true, false, inl, inr, List, [], ◌∷◌, length, refl, sym, ap, ◌∙◌}
use Rattle.ledger_model.specs.Rounds.{rounds_in_phase}
use Rattle.std.specs.Prelude.{nat_lt, ◌+◌, Option, Some, None, is_some, if◌then◌else◌}
use Rattle.std.specs.List.{filter_map, find}
use Rattle.std.proofs.lemmas.Bool.{cases_lt, lt-ltb, le-ltb, false≢true}
use Rattle.ledger_model.specs.declared.config.Config.{Config}
use Rattle.ledger_model.specs.declared.history.Entry.{Entry}
use Rattle.ledger_model.specs.Values.{Value}
use Rattle.ledger_model.specs.Notes.{Note, Proposed, Round, OwnStatement, Read, Retired, clock_of, open_of, is_open}
use Rattle.ledger_model.specs.Locks.{value_made, is_acked, decided_by, decided_of, or_else}
use Rattle.ledger_model.specs.Logs.{log_of}
use Rattle.ledger_model.specs.Commits.{decided_at, decision_at, floor_of}
use Rattle.instance.specs.Instances.{InstanceView}
use Rattle.instance.specs.Matching.{only_rounds}
use Rattle.instance.proofs.OpenLogs.{only_rounds_closed}
use Rattle.height_row.specs.Heights.{row_at, decided_in}
use Rattle.replica_core.specs.Replays.{ReplayView, IsOneCluster, MatchesHistory}

-- no lock was made where there are only rounds
no_made : (log : List Note) → only_rounds log ≡ true → filter_map value_made log ≡ []
no_made [] only = refl
no_made (Round c ∷ log) only = no_made log only
no_made (Proposed v ∷ log) only = cc
no_made (OwnStatement c s ∷ log) only = cc
no_made (Read c s ∷ log) only = cc
no_made (Retired f ∷ log) only = cc

-- nothing was decided there
pub no_decision : (config : Config) (log : List Note) → only_rounds log ≡ true → decided_of config log ≡ None
unfolding decided_of
no_decision config log only = none (clock_of log / rounds_in_phase)
  where
    none : (k : ℕ) → decided_by config log k ≡ None
    none zero = refl
    none (suc k) = ap (λ o. or_else o (find (is_acked config log (suc k)) (filter_map value_made log))) (none k)
        ∙ ap (find (is_acked config log (suc k))) (no_made log only)

-- a value that isn't there
not_there : (o : Option Value) → is_some o ≡ false → o ≡ None
not_there None is = refl
not_there (Some v) is = cc

module _ (meaning : Meanings) (held : ReplayView) (entries : List Entry) (matches : MatchesHistory meaning held entries) where
  abbrev log_there : ℕ → List Note
  log_there h = log_of held.config held.id h entries

  -- a height without a row isn't open
  pub closed_there : (h : ℕ) → row_at held.rows h ≡ None → open_of (log_there h) ≡ None
  closed_there h none = elim (cases_lt h held.floor) [
    | inl below ↦ not_there (open_of (log_there h)) (matches.retired h below)
    | inr from ↦ only_rounds_closed (log_there h) (matches.unopened h from none)
  ]

  -- a height is open just where it has a row
  pub opened_there : (h : ℕ) → is_some (row_at held.rows h) ≡ is_open (log_there h)
  opened_there h = by (row_at held.rows h) refl
    where
      by : (o : Option InstanceView) → row_at held.rows h ≡ o → is_some o ≡ is_open (log_there h)
      by (Some row) is = ap is_some (sym ((matches.opened h row is).opened))
      by None is = ap is_some (sym (closed_there h is))

  -- a height below the floor has none
  pub none_below : (h : ℕ) → h < held.floor → row_at held.rows h ≡ None
  none_below h below = by (row_at held.rows h) refl
    where
      by : (o : Option InstanceView) → row_at held.rows h ≡ o → o ≡ None
      by None is = refl
      by (Some row) is = absurd (false≢true (sym (matches.retired h below) ∙ ap is_some (matches.opened h row is).opened))

  -- from the floor on, what is decided by what is held is what the history decided
  pub decided_from : IsOneCluster held → (h : ℕ) → held.floor ≤ h
      → decided_in (row_at held.rows h) ≡ decided_at held.config held.id entries h
  decided_from one h from = by (row_at held.rows h) refl
    where
      by : (o : Option InstanceView) → row_at held.rows h ≡ o → decided_in o ≡ decided_at held.config held.id entries h
      by (Some row) is = (matches.opened h row is).decided ∙ ap (λ c. decided_of c (log_there h)) (one h row is)
      by None is = sym (no_decision held.config (log_there h) (matches.unopened h from is))

  -- at every height it is what the history decided there and didn't give up
  pub decided_there : IsOneCluster held → (h : ℕ) → decided_in (row_at held.rows h) ≡ decision_at held.config held.id entries h
  decided_there one h = elim (cases_lt h held.floor) [
    | inl below ↦ ap decided_in (none_below h below) ∙ sym (given (lt-ltb h held.floor below))
    | inr from ↦ decided_from one h from ∙ sym (given (le-ltb h held.floor from))
  ]
    where
      given : {b : Bool} → nat_lt h held.floor ≡ b
          → decision_at held.config held.id entries h ≡ (if b then None else decided_at held.config held.id entries h)
      given is = ap (λ n. if nat_lt h n then None else decided_at held.config held.id entries h) matches.floor
          ∙ ap (λ x. if x then None else decided_at held.config held.id entries h) is
