-- The replica opens a height.
use Rattle.ledger_model.specs.Meanings.{Meanings}
use Rattle.std.proofs.Common.{◌≡◌, ℕ, ◌+◌, ◌<◌, ◌≤◌, Bool, true, false, cond, inl, inr, List, [], ◌∷◌, ◌++◌, length, refl, sym, ap, subst}
use Rattle.std.proofs.Common.{◌∙◌, arith}
use Rattle.std.specs.Prelude.{◌==◌, ◌||◌, nat_lt, take, Option, Some, None, is_some, Result, Ok, Err, OnErr, IfOk, OnOk}
use Rattle.std.proofs.lemmas.Bool.{cases_eq, eq-eqb, ne_eqb, ltb-false, false≢true}
use Rattle.ledger_model.specs.Limits.{max_height, max_ahead}
use Rattle.ledger_model.specs.Versions.{batch_limit}
use Rattle.ledger_model.specs.declared.event.Event.TheVariants as event
use Rattle.ledger_model.specs.declared.history.Entry.{Entry}
use Rattle.ledger_model.specs.declared.reply.ProposeRefusal.{ProposeRefusal}
use Rattle.ledger_model.specs.declared.reply.ProposeRefusal.TheVariants as refusal
use Rattle.ledger_model.specs.declared.reply.Reply.TheVariants as reply
use Rattle.ledger_model.specs.Values.{Value}
use Rattle.ledger_model.specs.Notes.{Note, Proposed, clock_of, is_open}
use Rattle.ledger_model.specs.Logs.{log_of, notes_of}
use Rattle.ledger_model.specs.Rules.{Ring}
use Rattle.ledger_model.specs.Commits.{first_fault, commits_of, floor_of, propose_reply}
use Rattle.ledger_model.proofs.Goodness.{clock_of-append}
use Rattle.instance.specs.Instances.{InstanceView}
use Rattle.instance.specs.Matching.{MatchesLog, only_rounds}
use Rattle.height_row.specs.Heights.{row_at, AreApart}
use Rattle.replica_core.specs.Replays.{ReplayView, MatchesHistory}
use Rattle.replica_core.specs.Steps.{IsStep, with_result, propose_held}
use Rattle.replica_core.proofs.Quiet.{log_then, log_stays, quiet, unheard}
use Rattle.replica_core.proofs.Unopened.{opened_there}

-- the faults in order, each with whether it applies
abbrev faults : Bool → Bool → Bool → Bool → List (Bool × ProposeRefusal)
faults closed retired there far =
    (closed, refusal.Closed) ∷ (retired, refusal.Retired) ∷ (there, refusal.AlreadyOpen) ∷ (far, refusal.TooFar) ∷ []

-- the first of them, or a value
valued : (a r b c : Bool) (v : Value) → with_result (first_fault (faults a r b c) tt) v ≡ first_fault (faults a r b c) v
valued true r b c v = refl
valued false true b c v = refl
valued false false true c v = refl
valued false false false true v = refl
valued false false false false v = refl

-- what it takes to open a height
fits : (a r b c : Bool) (v w : Value) → Ok v ≡ with_result (first_fault (faults a r b c) tt) w → (r ≡ false) × (b ≡ false)
fits true r b c v w e = cc
fits false true b c v w e = cc
fits false false true c v w e = cc
fits false false false c v w e = (refl, refl)

module _ (meaning : Meanings) (held : ReplayView) (h : ℕ) (entries : List Entry) (matches : MatchesHistory meaning held entries) where
  -- what is answered by what is kept is what is answered by the history
  answered : propose_held held h ≡ propose_reply meaning held.config held.id entries h
  unfolding propose_reply
  answered =
      valued ((h == 0) || nat_lt max_height h) (nat_lt h held.floor) (is_some (row_at held.rows h))
      (nat_lt (length held.commits + max_ahead) h) (take (batch_limit held.config.frames) held.pool)
      ∙ ap (λ n. first_fault (faults ((h == 0) || nat_lt max_height h) (nat_lt h n) (is_some (row_at held.rows h))
      (nat_lt (length held.commits + max_ahead) h)) (take (batch_limit held.config.frames) held.pool)) (sym matches.floor)
      ∙ ap (λ b. first_fault (faults ((h == 0) || nat_lt max_height h) (nat_lt h (floor_of entries)) b
      (nat_lt (length held.commits + max_ahead) h)) (take (batch_limit held.config.frames) held.pool))
      (opened_there meaning held entries matches h)
      ∙ ap (λ vs. first_fault (faults ((h == 0) || nat_lt max_height h) (nat_lt h (floor_of entries))
      (is_open (log_of held.config held.id h entries)) (nat_lt (length vs + max_ahead) h))
      (take (batch_limit held.config.frames) held.pool))
      (sym matches.commits)
      ∙ ap (λ p. first_fault (faults ((h == 0) || nat_lt max_height h) (nat_lt h (floor_of entries))
      (is_open (log_of held.config held.id h entries)) (nat_lt (length (commits_of held.config held.id entries) + max_ahead) h))
      (take (batch_limit held.config.frames) p)) (sym matches.pool)

  -- a height that is refused
  refused : (f : ProposeRefusal) → MatchesHistory meaning held
      (entries ++ record { event = event.Propose h; reply = reply.Proposed (Err f) } ∷ [])
  unfolding notes_of
  refused f = unheard meaning held entries (record { event = event.Propose h; reply = reply.Proposed (Err f) }) matches refl refl refl
      (λ floor. refl) held.pool refl (λ g. refl)

  module _ (v : Value) where
    -- the entry of a height that is opened
    abbrev entry : Entry
    entry = record { event = event.Propose h; reply = reply.Proposed (Ok v) }

    -- the log there has the proposal more
    log_here : log_of held.config held.id h (entries ++ entry ∷ []) ≡ log_of held.config held.id h entries ++ Proposed v ∷ []
    unfolding notes_of
    log_here = log_then meaning held entries entry h
        ∙ ap (λ b. log_of held.config held.id h entries ++ cond b (Proposed v ∷ []) []) (eq-eqb h h refl)

    -- the other logs are as before
    log_there : (g : ℕ) → (g ≡ h → ⊥) → log_of held.config held.id g (entries ++ entry ∷ []) ≡ log_of held.config held.id g entries
    unfolding notes_of
    log_there g other = log_stays meaning held entries entry g
        (ap (λ b. cond b (Proposed v ∷ []) []) (ne_eqb h g (λ same. other (sym same))))

    -- what is kept then matches
    opened_more : (rows : List InstanceView) → is_some (row_at rows h) ≡ true → AreApart h held.rows rows
        → ((row : InstanceView) → row_at rows h ≡ Some row → (ring : Ring) (log : List Note) → only_rounds log ≡ true
        → MatchesLog ring row (log ++ Proposed v ∷ []))
        → is_some (row_at held.rows h) ≡ false → held.floor ≤ h
        → MatchesHistory meaning (record held { rows = rows }) (entries ++ entry ∷ [])
    opened_more rows there apart fresh closed from =
        quiet meaning held entries entry matches refl refl refl (λ floor. refl) rows held.pool refl clocks opened unopened retired
      where
        before : only_rounds (log_of held.config held.id h entries) ≡ true
        before = by (row_at held.rows h) refl
          where
            by : (o : Option InstanceView) → row_at held.rows h ≡ o → only_rounds (log_of held.config held.id h entries) ≡ true
            by None is = matches.unopened h from is
            by (Some row) is = absurd (false≢true (sym closed ∙ ap is_some is))

        clocks : (g : ℕ) → clock_of (log_of held.config held.id g (entries ++ entry ∷ [])) ≡ held.clock
        clocks g = elim (cases_eq g h) [
          | inl here ↦ subst (λ x. clock_of (log_of held.config held.id x (entries ++ entry ∷ [])) ≡ held.clock) (sym here)
              (ap clock_of log_here ∙ clock_of-append (log_of held.config held.id h entries) (Proposed v ∷ []) ∙ (let c =
              matches.clocks h in omega (arith, c)))
          | inr other ↦ ap clock_of (log_there g other) ∙ matches.clocks g
        ]

        opened : (g : ℕ) (row : InstanceView) → row_at rows g ≡ Some row
            → MatchesLog held.ring row (log_of held.config held.id g (entries ++ entry ∷ []))
        opened g row is = elim (cases_eq g h) [
          | inl here ↦ subst (λ l. MatchesLog held.ring row l)
              (sym (ap (λ x. log_of held.config held.id x (entries ++ entry ∷ [])) here ∙ log_here))
              (fresh row (ap (row_at rows) (sym here) ∙ is) held.ring (log_of held.config held.id h entries) before)
          | inr other ↦ subst (λ l. MatchesLog held.ring row l) (sym (log_there g other)) (matches.opened g row (sym (apart g other) ∙ is))
        ]

        retired : (g : ℕ) → g < held.floor → is_open (log_of held.config held.id g (entries ++ entry ∷ [])) ≡ false
        retired g below = ap is_open (log_there g (λ here. omega (arith, here, below, from))) ∙ matches.retired g below

        unopened : (g : ℕ) → held.floor ≤ g → row_at rows g ≡ None
            → only_rounds (log_of held.config held.id g (entries ++ entry ∷ [])) ≡ true
        unopened g high is = elim (cases_eq g h) [
          | inl here ↦ absurd (false≢true (sym (ap is_some (ap (row_at rows) (sym here) ∙ is)) ∙ there))
          | inr other ↦ ap only_rounds (log_there g other) ∙ matches.unopened g high (sym (apart g other) ∙ is)
        ]

-- a height is opened, or refused
pub proposes : (meaning : Meanings) (held new : ReplayView) (h : ℕ) (answer : Result Value ProposeRefusal) → answer ≡ propose_held held h
    → new ≡ record held { rows = new.rows } → OnErr answer (new ≡ held)
    → OnOk answer (is_some (row_at new.rows h) ≡ true) → AreApart h held.rows new.rows
    → IfOk answer (λ v. (row : InstanceView) → row_at new.rows h ≡ Some row → (ring : Ring) (log : List Note) → only_rounds log ≡ true
    → MatchesLog ring row (log ++ Proposed v ∷ []))
    → IsStep meaning held (event.Propose h) (reply.Proposed answer) new
proposes meaning held new h (Ok v) is rest err there apart fresh entries matches = (
  is ∙ answered meaning held h entries matches,
  refl,
  subst (λ x. MatchesHistory meaning x (entries ++ record { event = event.Propose h; reply = reply.Proposed (Ok v) } ∷ [])) (sym rest)
      (opened_more meaning held h entries matches v new.rows there apart fresh may.1 (ltb-false h held.floor may.0)),
)
  where
    may : (nat_lt h held.floor ≡ false) × (is_some (row_at held.rows h) ≡ false)
    may = fits ((h == 0) || nat_lt max_height h) (nat_lt h held.floor) (is_some (row_at held.rows h))
        (nat_lt (length held.commits + max_ahead) h) v (take (batch_limit held.config.frames) held.pool) is
proposes meaning held new h (Err f) is rest err there apart fresh entries matches = (
  is ∙ answered meaning held h entries matches,
  refl,
  subst (λ x. MatchesHistory meaning x (entries ++ record { event = event.Propose h; reply = reply.Proposed (Err f) } ∷ [])) (sym err)
      (refused meaning held h entries matches f),
)
