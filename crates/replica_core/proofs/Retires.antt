-- The replica gives up the heights below a new floor.
use Rattle.ledger_model.specs.Meanings.{Meanings}
use Rattle.std.proofs.Common.{◌≡◌, ℕ, ◌+◌, ◌<◌, ◌≤◌, Bool, true, false, cond, inl, inr, List, [], ◌∷◌, ◌++◌, length, refl, sym, ap, subst}
use Rattle.std.proofs.Common.{◌∙◌}
use Rattle.std.proofs.Common.{arith}
use Rattle.std.specs.Prelude.{nat_lt, nat_le, Option, Some, None, is_some, Result, Ok, Err}
use Rattle.std.proofs.Math.Bool.{or-false}
use Rattle.std.proofs.lemmas.Bool.{cases_lt, lt-ltb, le-ltb}
use Rattle.std.proofs.lemmas.List.{append-nil}
use Rattle.ledger_model.specs.declared.event.Event.TheVariants as event
use Rattle.ledger_model.specs.declared.history.Entry.{Entry}
use Rattle.ledger_model.specs.declared.reply.Reply.TheVariants as reply
use Rattle.ledger_model.specs.declared.reply.RetireRefusal.{RetireRefusal}
use Rattle.ledger_model.specs.declared.reply.RetireRefusal.TheVariants as kept
use Rattle.ledger_model.specs.Notes.{Note, Retired, clock_of, is_open}
use Rattle.ledger_model.specs.Logs.{log_of, notes_of, is_mute}
use Rattle.ledger_model.specs.Pools.{first_fault}
use Rattle.ledger_model.specs.Commits.{commits_of, retire_reply}
use Rattle.ledger_model.proofs.Goodness.{clock_of-append}
use Rattle.ledger_model.proofs.Floors.{NewFloor, floor_of-snoc, new_floor}
use Rattle.instance.specs.Instances.{InstanceView}
use Rattle.instance.specs.Matching.{MatchesLog, only_rounds}
use Rattle.instance.proofs.OpenLogs.{closed_by}
use Rattle.height_row.specs.Heights.{row_at, rows_from}
use Rattle.height_row.proofs.Floors.{none_below, same_from}
use Rattle.replica_core.specs.Replays.{ReplayView, MatchesHistory}
use Rattle.replica_core.specs.Steps.{IsStep, retire_held, after_retire}
use Rattle.replica_core.proofs.Histories.{pool_more, clock_more, mute_more, commits_stay, blocks_stay}
use Rattle.replica_core.proofs.Quiet.{log_then, log_stays, unheard}

module _ (meaning : Meanings) (held : ReplayView) (floor : ℕ) (entries : List Entry) (matches : MatchesHistory meaning held entries) where
  -- what is answered by what is held is what is answered by the history
  answered : retire_held held floor ≡ retire_reply held.config held.id entries floor
  unfolding retire_reply
  answered =
      ap (λ vs. first_fault ((nat_lt (length vs + 1) floor, kept.NotCommitted) ∷ (nat_le floor held.floor, kept.NotAbove) ∷ []) floor)
      (sym matches.commits)
      ∙ ap (λ n. first_fault ((nat_lt (length (commits_of held.config held.id entries) + 1) floor, kept.NotCommitted)
      ∷ (nat_le floor n, kept.NotAbove) ∷ []) floor) (sym matches.floor)

  -- a floor that is refused
  refused : (f : RetireRefusal) → MatchesHistory meaning held
      (entries ++ record { event = event.Retire floor; reply = reply.Retired (Err f) } ∷ [])
  unfolding notes_of
  refused f = unheard meaning held entries (record { event = event.Retire floor; reply = reply.Retired (Err f) }) matches refl refl refl
      (λ n. refl) held.pool refl (λ h. refl)

  module _ (committed : floor ≤ length held.commits + 1) (above : held.floor < floor) where
    -- the entry of a floor that is raised
    abbrev entry : Entry
    entry = record { event = event.Retire floor; reply = reply.Retired (Ok floor) }

    -- a height below it is retired
    log_below : (h : ℕ) → h < floor
        → log_of held.config held.id h (entries ++ entry ∷ []) ≡ log_of held.config held.id h entries ++ Retired floor ∷ []
    unfolding notes_of
    log_below h below = log_then meaning held entries entry h
        ∙ ap (λ b. log_of held.config held.id h entries ++ cond b (Retired floor ∷ []) []) (lt-ltb h floor below)

    -- the other logs are as before
    log_from : (h : ℕ) → floor ≤ h → log_of held.config held.id h (entries ++ entry ∷ []) ≡ log_of held.config held.id h entries
    unfolding notes_of
    log_from h from = log_stays meaning held entries entry h (ap (λ b. cond b (Retired floor ∷ []) []) (le-ltb h floor from))

    -- what is held then matches
    retired_more : MatchesHistory meaning (record held { floor = floor; rows = rows_from floor held.rows }) (entries ++ entry ∷ [])
    retired_more = record {
      clock = clock_more entries entry ∙ (let c = matches.clock in omega (arith, c));
      clocks = λ h. elim (cases_lt h floor) [
        | inl below ↦ ap clock_of (log_below h below)
            ∙ clock_of-append (log_of held.config held.id h entries) (Retired floor ∷ []) ∙ (let c = matches.clocks h in omega (arith, c))
        | inr from ↦ ap clock_of (log_from h from) ∙ matches.clocks h
      ];
      opened = λ h row at. elim (cases_lt h floor) [
        | inl below ↦ absurd (cc (sym (none_below floor held.rows h below) ∙ at))
        | inr from ↦ subst (λ l. MatchesLog held.ring row l) (sym (log_from h from))
            (matches.opened h row (sym (same_from floor held.rows h from) ∙ at))
      ];
      unopened = λ h from none. ap only_rounds (log_from h from)
          ∙ matches.unopened h (omega (arith, from, above)) (sym (same_from floor held.rows h from) ∙ none);
      retired = λ h below. ap is_open (log_below h below)
          ∙ ap is_some (closed_by (log_of held.config held.id h entries) (Retired floor ∷ []) refl);
      floor = floor_of-snoc entries entry;
      low = committed;
      pool = pool_more meaning held.config held.id entries entry ∙ matches.pool;
      commits = commits_stay held.config held.id entries entry matches.blocks refl ∙ matches.commits;
      machine = matches.machine;
      blocks = blocks_stay held.config held.id entries entry matches.blocks refl;
      mute = mute_more entries entry ∙ or-false (is_mute entries) ∙ matches.mute;
    }

-- the floor is raised, or refused
pub retires : (meaning : Meanings) (held new : ReplayView) (floor : ℕ) (answer : Result ℕ RetireRefusal) → answer ≡ retire_held held floor
    → new ≡ after_retire held answer → IsStep meaning held (event.Retire floor) (reply.Retired answer) new
retires meaning held new floor (Ok f) is after entries matches =
    let lawful = is ∙ answered meaning held floor entries matches in
    let (same, raised) = new_floor held.config held.id entries floor f lawful in
    let above = raised.above in
    let committed = raised.committed in
    let was = matches.floor in
    let blocks = ap length matches.commits in (
      lawful,
      refl,
      subst (λ x. MatchesHistory meaning x (entries ++ record { event = event.Retire floor; reply = reply.Retired (Ok f) } ∷ []))
          (sym after)
          (subst (λ n. MatchesHistory meaning (record held { floor = n; rows = rows_from n held.rows })
          (entries ++ record { event = event.Retire floor; reply = reply.Retired (Ok n) } ∷ [])) (sym same)
          (retired_more meaning held floor entries matches (omega (arith, same, committed, blocks)) (omega (arith, same, above, was)))),
    )
retires meaning held new floor (Err f) is after entries matches = (
  is ∙ answered meaning held floor entries matches,
  refl,
  subst (λ x. MatchesHistory meaning x (entries ++ record { event = event.Retire floor; reply = reply.Retired (Err f) } ∷ [])) (sym after)
      (refused meaning held floor entries matches f),
)
