-- The end of a round, over all open heights: it is lawful and signed, and the state afterwards matches the longer history.
use Rattle.ledger_model.specs.Meanings.{Meanings}
use Rattle.std.proofs.Common.{◌≡◌, ℕ, ◌+◌, ◌<◌, ◌≤◌, Bool, true, false, List, [], ◌∷◌, ◌++◌, refl, sym, ap, subst, ◌∙◌, arith}
use Rattle.std.specs.Prelude.{nat_eq, map, Option, Some, None, is_some, ◌||◌, if◌then◌else◌}
use Rattle.std.specs.List.{AllByRecursion}
use Rattle.ledger_model.specs.Limits.{last_round}
use Rattle.ledger_model.specs.declared.history.Entry.{Entry}
use Rattle.ledger_model.specs.declared.reply.RoundEnded.{RoundEnded}
use Rattle.ledger_model.specs.declared.statement.SignedStatement.{SignedStatement}
use Rattle.ledger_model.specs.Rounds.{place_of, release_place}
use Rattle.ledger_model.specs.Notes.{Note, clock_of, open_of, is_open}
use Rattle.ledger_model.specs.Logs.{log_of, statements_sent, statements_made}
use Rattle.ledger_model.specs.Rules.{MayMake}
use Rattle.ledger_model.specs.Lawful.{LawfulRoundEnd, held_locks, locks_sent_on}
use Rattle.instance.specs.declared.round_statement.RoundStatement.{RoundStatement}
use Rattle.ledger_model.proofs.Floors.{floor_of-snoc}
use Rattle.instance.specs.Instances.{InstanceView}
use Rattle.instance.specs.Matching.{MatchesLog, only_rounds}
use Rattle.instance.specs.Plans.{opened_effects, closed}
use Rattle.instance.specs.Laws.{made_in, opened_by}
use Rattle.instance.proofs.SameHeight.{same_closed}
use Rattle.height_row.specs.Heights.{row_at, closed_each}
use Rattle.replica_core.specs.Replays.{ReplayView, IsWithinLimits, IsOwnRow, MatchesHistory}
use Rattle.replica_core.specs.RoundEnds.{AreMade, frames_of_height, round_ended, after_end, RoundsEnd}
use Rattle.replica_core.proofs.Histories.{pool_more, clock_more, mute_more, commits_stay, blocks_stay}
use Rattle.replica_core.proofs.Quiet.{log_then}
use Rattle.replica_core.proofs.Unopened.{closed_there, none_below}
use Rattle.replica_core.proofs.AscendingRows.{each_found}
use Rattle.replica_core.proofs.SentFrames.{statements_in, frames_sent}
use Rattle.replica_core.proofs.AllHeights.{IsSentBy, all_right, all_signed, ascend_sent, none_unopened, IsMadeThere, made_there}
use Rattle.replica_core.proofs.ClosedRows.{none_closed, ascend_closed}
use Rattle.replica_core.proofs.UnopenedEnds.{no_locks, nothing_made, may_nothing, rounds_still, open_still}
use Rattle.replica_core.proofs.OpenEnds.{locks_alone, closes_there, made_is, may_there}
use Rattle.replica_core.proofs.RoundNotes.{end_entry, round_notes, notes_are, clock_then, mute_then}

module _ (meaning : Meanings) (held : ReplayView) (mute : Bool) (ms : List RoundStatement) (entries : List Entry)
    (is_held : IsWithinLimits held)
    (matches : MatchesHistory meaning held entries)
    (are_made : AreMade held.ring mute (held.clock + 1) held.rows ms) where
  -- the round that opens, and the answer to the end of the one before
  abbrev c : ℕ
  c = held.clock + 1

  abbrev end : RoundEnded
  end = round_ended held mute ms

  -- the log of a height, before and then
  abbrev log_at : ℕ → List Note
  log_at h = log_of held.config held.id h entries

  abbrev log_with : ℕ → List Note
  log_with h = log_of held.config held.id h (entries ++ end_entry end ∷ [])

  -- what is made at a height, and that it may be
  abbrev made_at : ℕ → List SignedStatement
  made_at h = statements_made held.config held.id h (log_at h) c end

  abbrev MayMakeAt : ℕ → List SignedStatement → Type 0
  MayMakeAt h made = MayMake held.config held.id h (log_at h) c mute (map (λ s. s.statement) made)

  -- what a log goes on with
  log_is : (h : ℕ) (made : List SignedStatement) → made_at h ≡ made → log_with h ≡ log_at h ++ round_notes (log_at h) c made
  log_is h made is =
      log_then meaning held entries (end_entry end) h
      ∙ ap (λ ns. log_at h ++ ns) (notes_are held.config held.id h (log_at h) held.clock (matches.clocks h) end made is)

  -- whatever is made at an open height, its frames are right
  each_sends : AllByRecursion (IsSentBy held.config held.ring mute c) held.rows
  each_sends =
      each_found (IsSentBy held.config held.ring mute c) held.rows is_held.ascend
      (λ h row is m is_made. frames_sent held.config held.ring row (log_at h) held.clock (matches.opened h row is) (matches.clocks h) mute
      m is_made)

  -- ---- a height that is not open

  module _ (h : ℕ) (none : row_at held.rows h ≡ None) where
    closed_here : open_of (log_at h) ≡ None
    closed_here = closed_there meaning held entries matches h none

    none_sent : statements_sent h end ≡ []
    unfolding statements_sent
    none_sent = none_unopened held.config held.ring mute c h held.rows ms none each_sends are_made

    none_made : made_at h ≡ []
    none_made = nothing_made (log_at h) closed_here held.config held.id h c end none_sent

    may_none : MayMakeAt h (made_at h)
    may_none = subst (MayMakeAt h) (sym none_made) (may_nothing (log_at h) closed_here held.config held.id h c mute)

    none_held : statements_sent h end ≡ locks_sent_on (log_at h)
    none_held = none_sent ∙ sym (no_locks (log_at h) closed_here)

    rounds_with : held.floor ≤ h → only_rounds (log_with h) ≡ true
    rounds_with from = ap only_rounds (log_is h [] none_made) ∙ rounds_still (log_at h) (matches.unopened h from none) c

    closed_with : is_open (log_with h) ≡ false
    closed_with = ap is_open (log_is h [] none_made) ∙ ap is_some (open_still (log_at h) c ∙ closed_here)

  -- ---- an open height

  module _ (h : ℕ) (row : InstanceView) (is : row_at held.rows h ≡ Some row) where
    own : IsOwnRow held h row
    own = is_held.own h row is

    before : MatchesLog held.ring row (log_at h)
    before = matches.opened h row is

    there : IsMadeThere held.config held.ring mute c h held.rows ms row
    there = made_there held.config held.ring mute c h row held.rows ms is_held.ascend each_sends are_made is

    sent_there : statements_sent h end ≡ statements_in (frames_of_height held.config c row there.made)
    unfolding statements_sent
    sent_there = there.sent

    made_there_is : made_at h ≡ made_in row (log_at h) c there.made
    made_there_is =
        made_is held.config held.ring row (log_at h) held.clock before (matches.clocks h) mute there.made there.is_made held.id h
        own.config own.id own.height end refl sent_there

    may_open : MayMakeAt h (made_at h)
    may_open =
        subst (MayMakeAt h) (sym made_there_is)
        (may_there held.config held.ring row (log_at h) held.clock before (matches.clocks h) mute there.made there.is_made held.id h
        own.config own.id own.height)

    locks_sent : nat_eq (place_of c) release_place ≡ true → statements_sent h end ≡ locks_sent_on (log_at h)
    locks_sent last = sent_there ∙ locks_alone held.config held.ring row (log_at h) held.clock before (matches.clocks h) mute there.made
        there.is_made last ∙ sym (ap (λ o. if is_some o then held_locks (log_at h) else []) before.opened)

    -- what is kept of it then
    module _ (new : InstanceView) (found : row_at (closed_each c held.rows ms) h ≡ Some new) where
      closed_is : closed row c (opened_effects row c) there.made ≡ new
      closed_is = cc (sym there.then ∙ found)

      matches_with : MatchesLog held.ring new (log_with h)
      matches_with =
          subst (λ l. MatchesLog held.ring new l) (sym (log_is h (made_in row (log_at h) c there.made) made_there_is))
          (subst (λ r. MatchesLog held.ring r (opened_by row (log_at h) c there.made)) closed_is
          (closes_there held.config held.ring row (log_at h) held.clock before (matches.clocks h) mute there.made there.is_made))

      own_with : IsOwnRow (after_end held mute ms) h new
      own_with =
          let kept = same_closed row c there.made in
          subst (IsOwnRow (after_end held mute ms) h) closed_is
          (record { config = kept.config ∙ own.config; id = kept.id ∙ own.id; height = kept.height ∙ own.height; low = own.low })

  -- ---- the end is lawful

  makes : (h : ℕ) → MayMakeAt h (made_at h)
  makes h = by (row_at held.rows h) refl
    where
      by : (o : Option InstanceView) → row_at held.rows h ≡ o → MayMakeAt h (made_at h)
      by None none = may_none h none
      by (Some row) is = may_open h row is

  sends_on : (h : ℕ) → nat_eq (place_of c) release_place ≡ true → statements_sent h end ≡ locks_sent_on (log_at h)
  sends_on h last = by (row_at held.rows h) refl
    where
      by : (o : Option InstanceView) → row_at held.rows h ≡ o → statements_sent h end ≡ locks_sent_on (log_at h)
      by None none = none_held h none
      by (Some row) is = locks_sent h row is last

  lawful : (held.mute ≡ true → mute ≡ true) → LawfulRoundEnd held.config held.id entries end
  lawful still = record {
    mute = λ was. still (sym matches.mute ∙ was);
    frames = all_right held.config held.ring mute c held.rows ms each_sends are_made;
    order = ascend_sent held.config held.ring mute c held.rows ms is_held.ascend each_sends are_made;
    makes = λ h. subst (λ n. MayMake held.config held.id h (log_at h) (n + 1) mute
        (map (λ s. s.statement) (statements_made held.config held.id h (log_at h) (n + 1) end)))
        (sym (matches.clocks h)) (makes h);
    sends_on = λ h last. sends_on h (subst (λ n. nat_eq (place_of (n + 1)) release_place ≡ true) (matches.clocks h) last);
  }

  -- ---- what is kept then

  matches_then : (held.mute ≡ true → mute ≡ true) → MatchesHistory meaning (after_end held mute ms) (entries ++ end_entry end ∷ [])
  matches_then still = record {
    clock = clock_more entries (end_entry end) ∙ ap (λ n. n + 1) matches.clock;
    clocks = λ h. ap clock_of (log_is h (made_at h) refl) ∙ clock_then (log_at h) c (made_at h) ∙ ap (λ n. n + 1) (matches.clocks h);
    opened = λ h new found. opened h new found (row_at held.rows h) refl;
    unopened = λ h from gone. unopened h from gone (row_at held.rows h) refl;
    retired = λ h below. closed_with h (none_below meaning held entries matches h below);
    floor = floor_of-snoc entries (end_entry end) ∙ matches.floor;
    low = matches.low;
    pool = pool_more meaning held.config held.id entries (end_entry end) ∙ matches.pool;
    commits = commits_stay held.config held.id entries (end_entry end) matches.blocks refl ∙ matches.commits;
    machine = matches.machine;
    blocks = blocks_stay held.config held.id entries (end_entry end) matches.blocks refl;
    mute = mute_more entries (end_entry end) ∙ ap (λ b. b || mute) matches.mute ∙ mute_then held.mute mute still;
  }
    where
      opened : (h : ℕ) (new : InstanceView) → row_at (closed_each c held.rows ms) h ≡ Some new → (o : Option InstanceView)
          → row_at held.rows h ≡ o → MatchesLog held.ring new (log_with h)
      opened h new found None none = absurd (cc (sym (none_closed c h held.rows ms none) ∙ found))
      opened h new found (Some row) is = matches_with h row is new found

      unopened : (h : ℕ) → held.floor ≤ h → row_at (closed_each c held.rows ms) h ≡ None → (o : Option InstanceView)
          → row_at held.rows h ≡ o → only_rounds (log_with h) ≡ true
      unopened h from gone None none = rounds_with h none from
      unopened h from gone (Some row) is = absurd (cc (sym gone ∙ (there h row is).then))

  held_then : held.clock < last_round → IsWithinLimits (after_end held mute ms)
  held_then early = record {
    member = is_held.member;
    own = λ h new found. owned h new found (row_at held.rows h) refl;
    ascend = ascend_closed c held.rows ms is_held.ascend;
    few = is_held.few;
    early = omega (arith, early);
  }
    where
      owned : (h : ℕ) (new : InstanceView) → row_at (closed_each c held.rows ms) h ≡ Some new → (o : Option InstanceView)
          → row_at held.rows h ≡ o → IsOwnRow (after_end held mute ms) h new
      owned h new found None none = absurd (cc (sym (none_closed c h held.rows ms none) ∙ found))
      owned h new found (Some row) is = own_with h row is new found

-- whatever may be made at each open height makes it a lawful and signed end
pub rounds_end : RoundsEnd
rounds_end meaning held mute ms entries is_held early matches still are_made = (
  record {
    lawful = lawful meaning held mute ms entries is_held matches are_made still;
    signed = all_signed held.config held.ring mute (held.clock + 1) held.rows ms
        (each_sends meaning held mute ms entries is_held matches are_made)
        are_made;
    matches = matches_then meaning held mute ms entries is_held matches are_made still;
  },
  held_then meaning held mute ms entries is_held matches are_made early,
)
