-- The frames of a lawful and signed round end are those of what they say was made, and each open height may make that.
use Rattle.ledger_model.specs.Meanings.{Meanings}
use Rattle.std.proofs.Common.{◌≡◌, ℕ, ◌+◌, inl, inr, Bool, true, false, List, [], ◌∷◌, ◌++◌, refl, sym, ap, subst, ◌∙◌}
use Rattle.std.specs.Prelude.{nat_eq, map, Some, None, is_some, if◌then◌else◌}
use Rattle.std.specs.List.{flat_map, list_all, AllByRecursion}
use Rattle.std.proofs.lemmas.Bool.{cases_Bool}
use Rattle.std.proofs.lemmas.List.Elements.{filter_map-append}
use Rattle.ledger_model.specs.declared.config.Config.{Config}
use Rattle.ledger_model.specs.declared.history.Entry.{Entry}
use Rattle.ledger_model.specs.declared.reply.RoundEnded.{RoundEnded}
use Rattle.ledger_model.specs.declared.reply.Sent.{Sent}
use Rattle.ledger_model.specs.declared.statement.SignedStatement.{SignedStatement}
use Rattle.ledger_model.specs.Rounds.{place_of, release_place}
use Rattle.ledger_model.specs.Notes.{Note, open_of}
use Rattle.ledger_model.specs.Logs.{log_of, statements_sent, own_ack, statements_made}
use Rattle.ledger_model.specs.Reading.{reading}
use Rattle.ledger_model.specs.Rules.{Ring, MayMake}
use Rattle.ledger_model.specs.Lawful.{LawfulRoundEnd, held_locks, locks_sent_on}
use Rattle.ledger_model.specs.Spelling.{IsFrame}
use Rattle.ledger_model.proofs.Lists.{all_from, all_has, each_from, each_has, filter_has}
use Rattle.instance.specs.declared.round_statement.RoundStatement.{RoundStatement}
use Rattle.instance.specs.Instances.{InstanceView}
use Rattle.instance.specs.Matching.{MatchesLog}
use Rattle.height_row.specs.Heights.{row_at}
use Rattle.replica_core.specs.Replays.{ReplayView, IsWithinLimits, IsOwnRow, MatchesHistory}
use Rattle.replica_core.specs.RoundEnds.{AreMade, frames_of_height, frames_of_heights}
use Rattle.replica_core.specs.ShownEnds.{statements_shown, sends_locks_on, made_shown, AreShownAlike, KeepsEnd, ShowsFrames, EndsShow}
use Rattle.replica_core.proofs.AscendingRows.{each_found}
use Rattle.replica_core.proofs.SentFrames.{statements_in, is_all_signed, frames_sent}
use Rattle.replica_core.proofs.AllHeights.{of_height, IsSentBy, all_right}
use Rattle.replica_core.proofs.Unopened.{closed_there}
use Rattle.replica_core.proofs.UnopenedEnds.{no_locks}
use Rattle.replica_core.proofs.SortedStatements.{all_parted}
use Rattle.replica_core.proofs.ShownHeights.{IsShownAt, shown_mute, shown_one, shown_release}
use Rattle.replica_core.proofs.ShownMades.{none_before, is_shown, shown_alike}

-- ---- what each height makes, together

-- what is made at each open height, and that all the frames spell its statements in order
record AreShownBy (config : Config) (ring : Ring) (mute : Bool) (c : ℕ) (ss : List SignedStatement) (rows : List InstanceView) : Type 0
  where
    ms : List RoundStatement
    made : AreMade ring mute c rows ms
    sent : statements_in (frames_of_heights config c rows ms) ≡ flat_map (λ row. of_height row.height ss) rows

shown_by : (config : Config) (ring : Ring) (mute : Bool) (c : ℕ) (ss : List SignedStatement) (rows : List InstanceView)
    → AllByRecursion (IsShownAt config ring mute c ss) rows
    → AreShownBy config ring mute c ss rows
shown_by config ring mute c ss [] shown = record { ms = []; made = tt; sent = refl }
shown_by config ring mute c ss (row ∷ rows) shown =
    let rest = shown_by config ring mute c ss rows shown.1 in
    record {
      ms = shown.0.made ∷ rest.ms;
      made = (shown.0.is_made, rest.made);
      sent = filter_map-append (λ (f : Sent). reading f.frame) (frames_of_height config c row shown.0.made) (frames_of_heights config c rows rest.ms)
          ∙ ap (λ ts. ts ++ statements_in (frames_of_heights config c rows rest.ms)) shown.0.sent
          ∙ ap (λ ts. of_height row.height ss ++ ts) rest.sent;
    }

-- what holds of all holds of those of one height
those_signed : (ring : Ring) (h : ℕ) (ss : List SignedStatement) → list_all (is_all_signed ring) ss ≡ true
    → list_all (is_all_signed ring) (of_height h ss) ≡ true
those_signed ring h ss all = all_from (is_all_signed ring) (of_height h ss)
    (λ s has. all_has (is_all_signed ring) ss s all (filter_has _ ss s has).0)

those_frames : (h : ℕ) (ss : List SignedStatement) → AllByRecursion IsFrame ss → AllByRecursion IsFrame (of_height h ss)
those_frames h ss all = each_from IsFrame (of_height h ss) (λ s has. each_has IsFrame ss s all (filter_has _ ss s has).0)

module _ (meaning : Meanings) (held : ReplayView) (entries : List Entry) (end : RoundEnded) (is_held : IsWithinLimits held)
    (matches : MatchesHistory meaning held entries) (keeps : KeepsEnd meaning held entries end)
    (spelled : end.mute ≡ false → sends_locks_on (held.clock + 1) held.rows ≡ false → AllByRecursion IsFrame (statements_shown end.frames)) where
  abbrev c : ℕ
  c = held.clock + 1

  abbrev ss : List SignedStatement
  ss = statements_shown end.frames

  abbrev log_at : ℕ → List Note
  log_at h = log_of held.config held.id h entries

  lawful : LawfulRoundEnd held.config held.id entries end
  lawful = keeps.lawful.1

  -- what is made at a height, before place 4
  abbrev MayMakeAt : Config → ℕ → ℕ → ℕ → Bool → Type 0
  MayMakeAt config id h n mute =
      MayMake config id h (log_at n) c mute (map (λ s. s.statement) (of_height h ss ++ own_ack config id h (log_at n) c mute))

  made_is : (h : ℕ) → nat_eq (place_of c) release_place ≡ false
      → statements_made held.config held.id h (log_at h) c end ≡ of_height h ss ++ own_ack held.config held.id h (log_at h) c end.mute
  unfolding statements_made statements_sent
  made_is h early = rw early refl

  may_make : (h : ℕ) → nat_eq (place_of c) release_place ≡ false → MayMakeAt held.config held.id h h end.mute
  may_make h early =
      subst (λ made. MayMake held.config held.id h (log_at h) c end.mute (map (λ s. s.statement) made)) (made_is h early)
      (subst (λ n. MayMake held.config held.id h (log_at h) (n + 1) end.mute
      (map (λ s. s.statement) (statements_made held.config held.id h (log_at h) (n + 1) end)))
      (matches.clocks h) (lawful.makes h))

  -- at place 4 the held locks are sent, where the height is open
  locks_sent : (h : ℕ) → nat_eq (place_of c) release_place ≡ true → of_height h ss ≡ locks_sent_on (log_at h)
  unfolding statements_sent
  locks_sent h last = lawful.sends_on h (subst (λ n. nat_eq (place_of (n + 1)) release_place ≡ true) (sym (matches.clocks h)) last)

  -- ---- an open height

  module _ (h : ℕ) (row : InstanceView) (is : row_at held.rows h ≡ Some row) where
    own : IsOwnRow held h row
    own = is_held.own h row is

    before : MatchesLog held.ring row (log_at h)
    before = matches.opened h row is

    may_row : nat_eq (place_of c) release_place ≡ false → MayMakeAt row.config row.id row.height h end.mute
    may_row early =
        subst (λ g. MayMakeAt g row.id row.height h end.mute) (sym own.config)
        (subst (λ r. MayMakeAt held.config r row.height h end.mute) (sym own.id)
        (subst (λ n. MayMakeAt held.config held.id n h end.mute) (sym own.height) (may_make h early)))

    shown_there : IsShownAt held.config held.ring end.mute c ss row
    shown_there = elim (cases_Bool (nat_eq (place_of c) release_place)) [
      | inl last ↦ shown_release held.ring row (log_at h) held.clock before (matches.clocks h) held.config ss end.mute last
          (ap (λ n. of_height n ss) own.height ∙ locks_sent h last
          ∙ ap (λ o. if is_some o then held_locks (log_at h) else []) before.opened)
      | inr early ↦ by end.mute refl early (may_row early)
    ]
      where
        by : (mute : Bool) → end.mute ≡ mute → nat_eq (place_of c) release_place ≡ false → MayMakeAt row.config row.id row.height h end.mute
            → IsShownAt held.config held.ring end.mute c ss row
        by true says early may =
            subst (λ b. IsShownAt held.config held.ring b c ss row) (sym says)
            (shown_mute held.ring row (log_at h) held.clock before (matches.clocks h) held.config ss early
            (subst (λ b. MayMakeAt row.config row.id row.height h b) says may))
        by false says early may =
            subst (λ b. IsShownAt held.config held.ring b c ss row) (sym says)
            (shown_one held.ring row (log_at h) held.clock before (matches.clocks h) held.config ss early
            (subst (λ b. MayMakeAt row.config row.id row.height h b) says may)
            (those_signed held.ring row.height ss keeps.signed) (those_frames row.height ss (spelled says (none_before c held.rows early))))

    -- whatever is made there, its frames are right
    sends_there : IsSentBy held.config held.ring end.mute c row
    sends_there m is_made = frames_sent held.config held.ring row (log_at h) held.clock before (matches.clocks h) end.mute m is_made

  -- ---- a height that is not open

  -- nothing is made there
  none_made_of : (log : List Note) → open_of log ≡ None → (config : Config) (id h : ℕ) (mute : Bool) (xs ys : List SignedStatement)
      → MayMake config id h log c mute (map (λ s. s.statement) (xs ++ ys)) → xs ≡ []
  unfolding MayMake
  none_made_of log closed config id h mute [] ys may = refl
  none_made_of log closed config id h true (x ∷ xs) ys may = absurd (cc may)
  none_made_of log closed config id h false (x ∷ xs) ys may = (let none = rw closed at may in absurd (cc none))

  none_unopened : (h : ℕ) → row_at held.rows h ≡ None → of_height h ss ≡ []
  none_unopened h none = elim (cases_Bool (nat_eq (place_of c) release_place)) [
    | inl last ↦ locks_sent h last ∙ no_locks (log_at h) (closed_there meaning held entries matches h none)
    | inr early ↦ none_made_of (log_at h) (closed_there meaning held entries matches h none) held.config held.id h end.mute (of_height h ss)
        (own_ack held.config held.id h (log_at h) c end.mute) (may_make h early)
  ]

  -- ---- all heights

  shown_all : AreShownBy held.config held.ring end.mute c ss held.rows
  shown_all = shown_by held.config held.ring end.mute c ss held.rows
      (each_found (IsShownAt held.config held.ring end.mute c ss) held.rows is_held.ascend shown_there)

  sends_all : AllByRecursion (IsSentBy held.config held.ring end.mute c) held.rows
  sends_all = each_found (IsSentBy held.config held.ring end.mute c) held.rows is_held.ascend sends_there

  -- the frames spell all statements that they show, in order
  same_sent : statements_in (frames_of_heights held.config c held.rows shown_all.ms) ≡ ss
  same_sent = shown_all.sent ∙ all_parted held.rows ss is_held.ascend lawful.order none_unopened

  -- what the frames show is what was made
  made_is_shown : made_shown end.mute c held.rows ss ≡ shown_all.ms
  made_is_shown =
      ap (λ ts. made_shown end.mute c held.rows ts) (sym same_sent)
      ∙ is_shown held.config held.ring c end.mute held.rows shown_all.ms is_held.ascend sends_all shown_all.made

  alike : AreShownAlike (frames_of_heights held.config c held.rows shown_all.ms) end.frames
  alike =
      shown_alike held.config (frames_of_heights held.config c held.rows shown_all.ms) end.frames
      (all_right held.config held.ring end.mute c held.rows shown_all.ms sends_all shown_all.made) lawful.frames same_sent

pub ends_show : EndsShow
ends_show meaning held entries end is_held early matches keeps spelled =
    let shown = shown_all meaning held entries end is_held matches keeps spelled in
    let is = sym (made_is_shown meaning held entries end is_held matches keeps spelled) in (
      subst (AreMade held.ring end.mute (held.clock + 1) held.rows) is shown.made,
      subst (ShowsFrames held end) is (alike meaning held entries end is_held matches keeps spelled),
    )
