-- Bytes arrive from the network.
use Rattle.ledger_model.specs.Meanings.{Meanings}
use Rattle.std.proofs.Common.{◌≡◌, ℕ, ◌<◌, ◌≤◌, true, false, cond, inl, inr, List, [], ◌∷◌, ◌++◌, refl, sym, ap, subst, ◌∙◌, arith}
use Rattle.std.specs.Prelude.{nat_eq, Option, Some, None, is_some, Result, Ok, Err, IfOk, OnErr}
use Rattle.std.proofs.lemmas.Bool.{cases_eq, eq-eqb, ne_eqb, lt-ltb, le-ltb, false≢true}
use Rattle.ledger_model.specs.declared.event.Event.TheVariants as event
use Rattle.ledger_model.specs.declared.history.Entry.{Entry}
use Rattle.ledger_model.specs.declared.reply.Ignored.{Ignored}
use Rattle.ledger_model.specs.declared.reply.Ignored.TheVariants as cause
use Rattle.ledger_model.specs.declared.reply.Reply.TheVariants as reply
use Rattle.ledger_model.specs.declared.statement.SignedStatement.{SignedStatement}
use Rattle.ledger_model.specs.Notes.{Note, Read, clock_of, is_open, signer_of}
use Rattle.ledger_model.specs.Logs.{log_of, height_of, if_some, notes_of}
use Rattle.ledger_model.specs.Reading.{reading_in}
use Rattle.ledger_model.specs.Rules.{causes, answer_to}
use Rattle.ledger_model.specs.Lawful.{answer}
use Rattle.ledger_model.proofs.Goodness.{clock_of-append}
use Rattle.instance.specs.Instances.{InstanceView}
use Rattle.instance.specs.Matching.{MatchesLog, only_rounds}
use Rattle.height_row.specs.Heights.{HeightRowView, row_at, AreApart}
use Rattle.std.specs.declared.alloc.AllocError.{AllocError}
use Rattle.replica_core.specs.Replays.{ReplayView, MatchesHistory}
use Rattle.replica_core.specs.Steps.{IsStep}
use Rattle.replica_core.proofs.Quiet.{log_then, log_stays, quiet, unheard}
use Rattle.replica_core.proofs.Unopened.{closed_there}

-- what a frame that is judged changes: the height that it is of alone, and only where it is read
pub record Judged (held : ReplayView) (s : SignedStatement) (row : InstanceView) (new : List InstanceView)
    (shown : Result (Unit {0}) Ignored) : Type 0 where
  pub answers : (log : List Note) → MatchesLog held.ring row log → clock_of log ≡ held.clock → shown ≡ answer_to held.config held.ring log s
  pub reads : (next : InstanceView) → row_at new (height_of s.statement) ≡ Some next → (log : List Note) → MatchesLog held.ring row log
      → clock_of log ≡ held.clock
      → IfOk shown (λ x. MatchesLog held.ring next (log ++ Read held.clock s ∷ []))
  pub leaves : OnErr shown (new ≡ held.rows)
  pub stays_open : is_some (row_at new (height_of s.statement)) ≡ true
  pub apart : AreApart (height_of s.statement) held.rows new

module _ (meaning : Meanings) (held : ReplayView) (bytes : List ℕ) where
  -- what is ignored changes nothing
  ignored : (f : Ignored) (entries : List Entry) → MatchesHistory meaning held entries
      → MatchesHistory meaning held (entries ++ record { event = event.Deliver bytes; reply = reply.Delivered (Err f) } ∷ [])
  unfolding notes_of
  ignored f entries matches = unheard meaning held entries (record { event = event.Deliver bytes; reply = reply.Delivered (Err f) }) matches
      refl
      refl refl (λ floor. refl) held.pool refl (λ h. refl)

  -- bytes that are no frame
  pub malformed : reading_in held.config.frames bytes ≡ None
      → IsStep meaning held (event.Deliver bytes) (reply.Delivered (Err cause.Malformed)) held
  malformed is entries matches = (
    ap (answer held.config held.ring held.id entries) (sym is),
    refl,
    ignored cause.Malformed entries matches,
  )

  module _ (s : SignedStatement) (is : reading_in held.config.frames bytes ≡ Some s) where
    -- a frame whose signer is no replica
    pub stranger : held.config.replicas ≤ signer_of s.statement
        → IsStep meaning held (event.Deliver bytes) (reply.Delivered (Err cause.Signer)) held
    unfolding causes
    stranger high entries matches = (
      sym (ap (answer held.config held.ring held.id entries) is ∙ simp (le-ltb (signer_of s.statement) held.config.replicas high) refl),
      refl,
      ignored cause.Signer entries matches,
    )

    -- a frame of a height that is not open
    pub unopened : signer_of s.statement < held.config.replicas → row_at held.rows (height_of s.statement) ≡ None
        → IsStep meaning held (event.Deliver bytes) (reply.Delivered (Err cause.NoRow)) held
    unfolding causes
    unopened low none entries matches = (
      sym (ap (answer held.config held.ring held.id entries) is
          ∙ simp (
            lt-ltb (signer_of s.statement) held.config.replicas low,
            closed_there meaning held entries matches (height_of s.statement) none,
          ) refl),
      refl,
      ignored cause.NoRow entries matches,
    )

    module _ (entries : List Entry) (matches : MatchesHistory meaning held entries) where
      -- the entry of a frame that is read
      abbrev entry : Entry
      entry = record { event = event.Deliver bytes; reply = reply.Delivered (Ok tt) }

      -- the log of its height has it more
      log_here : log_of held.config held.id (height_of s.statement) (entries ++ entry ∷ [])
          ≡ log_of held.config held.id (height_of s.statement) entries ++ Read held.clock s ∷ []
      unfolding notes_of
      log_here =
          log_then meaning held entries entry (height_of s.statement)
          ∙ ap (λ o. log_of held.config held.id (height_of s.statement) entries
          ++ if_some o (λ x. cond (nat_eq (height_of x.statement) (height_of s.statement))
          (Read (clock_of (log_of held.config held.id (height_of s.statement) entries)) x ∷ []) [])) is
          ∙ ap (λ b. log_of held.config held.id (height_of s.statement) entries
          ++ cond b (Read (clock_of (log_of held.config held.id (height_of s.statement) entries)) s ∷ []) [])
          (eq-eqb (height_of s.statement) (height_of s.statement) refl)
          ∙ ap (λ c. log_of held.config held.id (height_of s.statement) entries ++ Read c s ∷ []) (matches.clocks (height_of s.statement))

      -- the other logs are as before
      log_there : (g : ℕ) → (g ≡ height_of s.statement → ⊥)
          → log_of held.config held.id g (entries ++ entry ∷ []) ≡ log_of held.config held.id g entries
      unfolding notes_of
      log_there g other = log_stays meaning held entries entry g
          (ap (λ o. if_some o (λ x. cond (nat_eq (height_of x.statement) g) (Read (clock_of (log_of held.config held.id g entries)) x ∷ [])
          [])) is
          ∙ ap (λ b. cond b (Read (clock_of (log_of held.config held.id g entries)) s ∷ []) [])
          (ne_eqb (height_of s.statement) g (λ same. other (sym same))))

      -- what is kept then matches
      read_more : (row : InstanceView) (new : List InstanceView) → row_at held.rows (height_of s.statement) ≡ Some row
          → Judged held s row new (Ok tt) → MatchesHistory meaning (record held { rows = new }) (entries ++ entry ∷ [])
      read_more row new at judged =
          quiet meaning held entries entry matches refl refl refl (λ floor. refl) new held.pool refl clocks opened unopened retired
        where
          clocks : (g : ℕ) → clock_of (log_of held.config held.id g (entries ++ entry ∷ [])) ≡ held.clock
          clocks g = elim (cases_eq g (height_of s.statement)) [
            | inl here ↦ subst (λ x. clock_of (log_of held.config held.id x (entries ++ entry ∷ [])) ≡ held.clock) (sym here)
                (ap clock_of log_here ∙ clock_of-append (log_of held.config held.id (height_of s.statement) entries)
                (Read held.clock s ∷ []) ∙ (let c = matches.clocks (height_of s.statement) in omega (arith, c)))
            | inr other ↦ ap clock_of (log_there g other) ∙ matches.clocks g
          ]

          opened : (g : ℕ) (next : InstanceView) → row_at new g ≡ Some next
              → MatchesLog held.ring next (log_of held.config held.id g (entries ++ entry ∷ []))
          opened g next is_next = elim (cases_eq g (height_of s.statement)) [
            | inl here ↦ subst (λ l. MatchesLog held.ring next l)
                (sym (ap (λ x. log_of held.config held.id x (entries ++ entry ∷ [])) here ∙ log_here))
                (judged.reads next (ap (row_at new) (sym here) ∙ is_next) (log_of held.config held.id (height_of s.statement) entries)
                (matches.opened (height_of s.statement) row at) (matches.clocks (height_of s.statement)))
            | inr other ↦ subst (λ l. MatchesLog held.ring next l) (sym (log_there g other))
                (matches.opened g next (sym (judged.apart g other) ∙ is_next))
          ]

          retired : (g : ℕ) → g < held.floor → is_open (log_of held.config held.id g (entries ++ entry ∷ [])) ≡ false
          retired g below = elim (cases_eq g (height_of s.statement)) [
            | inl here ↦ absurd (false≢true (sym (matches.retired g below) ∙ ap is_some ((matches.opened g row
                (ap (row_at held.rows) here ∙ at)).opened)))
            | inr other ↦ ap is_open (log_there g other) ∙ matches.retired g below
          ]

          unopened : (g : ℕ) → held.floor ≤ g → row_at new g ≡ None
              → only_rounds (log_of held.config held.id g (entries ++ entry ∷ [])) ≡ true
          unopened g from none = elim (cases_eq g (height_of s.statement)) [
            | inl here ↦ absurd (false≢true (sym (ap is_some (ap (row_at new) (sym here) ∙ none)) ∙ judged.stays_open))
            | inr other ↦ ap only_rounds (log_there g other) ∙ matches.unopened g from (sym (judged.apart g other) ∙ none)
          ]

    -- a frame of an open height
    pub judged : (row : InstanceView) (new : List InstanceView) (shown : Result (Unit {0}) Ignored)
        → row_at held.rows (height_of s.statement) ≡ Some row → Judged held s row new shown
        → IsStep meaning held (event.Deliver bytes) (reply.Delivered shown) (record held { rows = new })
    judged row new (Ok u) at j entries matches = (
      j.answers (log_of held.config held.id (height_of s.statement) entries) (matches.opened (height_of s.statement) row at)
          (matches.clocks (height_of s.statement))
          ∙ ap (answer held.config held.ring held.id entries) (sym is),
      refl,
      read_more entries matches row new at j,
    )
    judged row new (Err f) at j entries matches = (
      j.answers (log_of held.config held.id (height_of s.statement) entries) (matches.opened (height_of s.statement) row at)
          (matches.clocks (height_of s.statement))
          ∙ ap (answer held.config held.ring held.id entries) (sym is),
      refl,
      subst (λ rows. MatchesHistory meaning (record held { rows = rows })
          (entries ++ record { event = event.Deliver bytes; reply = reply.Delivered (Err f) } ∷ [])) (sym j.leaves)
          (ignored f entries matches),
    )

-- a frame of an open height, by what the open heights answered and are then
pub judged_there : (meaning : Meanings) (held : ReplayView) (s : SignedStatement) (old new : HeightRowView)
    (result : Result (Result (Unit {0}) Ignored) AllocError)
    → old.rows ≡ held.rows
    → is_some (row_at held.rows (height_of s.statement)) ≡ true
    → ((row : InstanceView) → row_at held.rows (height_of s.statement) ≡ Some row → row.config ≡ held.config)
    → IfOk result (λ r. (row : InstanceView) → row_at old.rows (height_of s.statement) ≡ Some row → (log : List Note)
    → MatchesLog held.ring row log → clock_of log ≡ held.clock → r ≡ answer_to row.config held.ring log s)
    → IfOk result (λ r. (row next : InstanceView) → row_at old.rows (height_of s.statement) ≡ Some row
    → row_at new.rows (height_of s.statement) ≡ Some next → (log : List Note)
    → MatchesLog held.ring row log → clock_of log ≡ held.clock → IfOk r (λ x. MatchesLog held.ring next (log ++ Read held.clock s ∷ [])))
    → IfOk result (λ r. OnErr r (new ≡ old))
    → is_some (row_at new.rows (height_of s.statement)) ≡ true
    → AreApart (height_of s.statement) old.rows new.rows
    → IfOk result (λ r. (bytes : List ℕ) → reading_in held.config.frames bytes ≡ Some s
    → IsStep meaning held (event.Deliver bytes) (reply.Delivered r) (record held { rows = new.rows }))
judged_there meaning held s old new (Err e) same there config answers reads leaves stays apart = tt
judged_there meaning held s old new (Ok shown) same there config answers reads leaves stays apart =
    λ bytes is. by bytes is (row_at held.rows (height_of s.statement)) refl
  where
    kept : (r : Result (Unit {0}) Ignored) → OnErr r (new ≡ old) → OnErr r (new.rows ≡ held.rows)
    kept (Ok u) e = tt
    kept (Err f) e = ap (λ (x : HeightRowView). x.rows) e ∙ same

    by : (bytes : List ℕ) → reading_in held.config.frames bytes ≡ Some s → (o : Option InstanceView)
        → row_at held.rows (height_of s.statement) ≡ o
        → IsStep meaning held (event.Deliver bytes) (reply.Delivered shown) (record held { rows = new.rows })
    by bytes is None none = absurd (false≢true (sym (ap is_some none) ∙ there))
    by bytes is (Some row) at = judged meaning held bytes s is row new.rows shown at (record {
      answers = λ log matches clock. answers row (ap (λ rows. row_at rows (height_of s.statement)) same ∙ at) log matches clock
          ∙ ap (λ c. answer_to c held.ring log s) (config row at);
      reads = λ next next_at log matches clock. reads row next (ap (λ rows. row_at rows (height_of s.statement)) same ∙ at) next_at log
          matches clock;
      leaves = kept shown leaves;
      stays_open = stays;
      apart = λ other apart_from. apart other apart_from ∙ ap (λ rows. row_at rows other) same;
    })
