-- What the frames of a round end say was made, and whether the end continues the replay.
use Rattle.ledger_model.specs.Meanings.{Meanings}
use Rattle.std.proofs.Common.{◌≡◌, ℕ, ◌+◌, ◌<◌, inl, inr, Bool, true, false, List, [], ◌∷◌, ◌++◌, length, refl, sym, ap, subst, ◌∙◌, arith}
use Rattle.std.specs.Prelude.{nat_eq, map, None, Ok, Err, is_some}
use Rattle.std.specs.List.{list_any, AllByRecursion}
use Rattle.std.proofs.lemmas.Bool.{cases_Bool, eqb-true, ne_eqb}
use Rattle.std.proofs.lemmas.List.{length-map}
use Rattle.ledger_model.specs.declared.config.Config.{Config}
use Rattle.ledger_model.specs.Limits.{last_round}
use Rattle.ledger_model.specs.declared.event.Event.TheVariants as event
use Rattle.ledger_model.specs.declared.history.Entry.{Entry}
use Rattle.ledger_model.specs.declared.reply.LastRound.{LastRound}
use Rattle.ledger_model.specs.declared.reply.Reply.TheVariants as reply
use Rattle.ledger_model.specs.declared.reply.RoundEnded.{RoundEnded}
use Rattle.ledger_model.specs.declared.statement.SignedStatement.{SignedStatement}
use Rattle.ledger_model.specs.Rounds.{place_of, ack_place, lock_place, release_place, report_place}
use Rattle.ledger_model.specs.Reading.{reading}
use Rattle.ledger_model.specs.Rules.{Ring}
use Rattle.ledger_model.specs.Lawful.{IsSentRight}
use Rattle.ledger_model.specs.Spelling.{IsFrame}
use Rattle.ledger_model.proofs.Lists.{any_mapped, each_weaker}
use Rattle.instance.specs.declared.round_statement.RoundStatement.{RoundStatement}
use Rattle.instance.specs.declared.round_statement.RoundStatement.TheVariants as made
use Rattle.instance.specs.Instances.{InstanceView}
use Rattle.instance.specs.Plans.{RoundEffectsView, MaySend, opened_effects, IsOwnMade}
use Rattle.height_row.specs.declared.round_closing.RoundClosing.{RoundClosing}
use Rattle.replica_core.specs.Replays.{ReplayView, IsWithinLimits, MatchesHistory}
use Rattle.replica_core.specs.RoundEnds.{AreMade, round_ended, after_end}
use Rattle.replica_core.specs.ChosenEnds.{all_mute}
use Rattle.replica_core.specs.Following.{KeepsReplay, IsFollowed}
use Rattle.replica_core.specs.ShownEnds.{statements_shown, made_each, all_unsent, is_some_there, sends_locks_on, made_shown, AreSpelled}
use Rattle.replica_core.specs.ShownEnds.{AreShownAlike, KeepsEnd, ShowsFrames, IsShown, KeepsNone}
use Rattle.replica_core.proofs.ChosenEnds.{none_made}
use Rattle.replica_core.proofs.Endings.{over}
use Rattle.replica_core.proofs.RoundsEnd.{rounds_end}
use Rattle.replica_core.proofs.ShownEnds.{ends_show}
use Rattle.replica_core.proofs.ShownMades.{none_before}
use Rattle.replica_core.proofs.Followed.{refused}

abbrev pub mades : List RoundClosing → List RoundStatement
mades xs = map (λ x. x.made) xs

-- the frames show a result for each open height, and no more
pub shown_count : (c : ℕ) (rows : List InstanceView) (xs : List RoundClosing) → map (λ x. x.ending) xs ≡ map (λ row. opened_effects row c) rows
    → length (mades xs) ≡ length rows
shown_count c rows xs endings =
    length-map xs (λ (x : RoundClosing). x.made) ∙ sym (length-map xs (λ (x : RoundClosing). x.ending)) ∙ ap length endings
    ∙ length-map rows (λ row. opened_effects row c)

pub closing_count : (c : ℕ) (rows : List InstanceView) (xs : List RoundClosing) → map (λ x. x.ending) xs ≡ map (λ row. opened_effects row c) rows
    → length xs ≡ length rows
closing_count c rows xs endings =
    sym (length-map xs (λ (x : RoundClosing). x.ending)) ∙ ap length endings ∙ length-map rows (λ row. opened_effects row c)

-- the endings send locks on where the heights do
pub endings_release : (c : ℕ) (rows : List InstanceView) (endings : List RoundEffectsView) (b : Bool)
    → b ≡ list_any (λ e. is_some_there e.sends_on) endings → endings ≡ map (λ row. opened_effects row c) rows
    → b ≡ sends_locks_on c rows
endings_release c rows endings b is prepared =
    is ∙ ap (list_any (λ (e : RoundEffectsView). is_some_there e.sends_on)) prepared
    ∙ any_mapped (λ (e : RoundEffectsView). is_some_there e.sends_on) (λ row. opened_effects row c) rows

-- ---- one that makes nothing

-- nothing may be made at place 4
unsent_made : (ring : Ring) (c : ℕ) (rows : List InstanceView) → nat_eq (place_of c) release_place ≡ true
    → AreMade ring false c rows (all_unsent rows)
unsent_made ring c [] last = tt
unsent_made ring c (row ∷ rows) last =
    let place = eqb-true (place_of c) 4 last in
    let first : nat_eq (place_of c) report_place ≡ false = ne_eqb (place_of c) 1 (λ e. omega (arith, e, place)) in
    let second : nat_eq (place_of c) lock_place ≡ false = ne_eqb (place_of c) 2 (λ e. omega (arith, e, place)) in
    let third : nat_eq (place_of c) ack_place ≡ false = ne_eqb (place_of c) 3 (λ e. omega (arith, e, place)) in
    let none : MaySend row c None = rw (first, second, third) refl in
    (record { silent = refl; may = none; own = tt; signed = tt; frame = tt }, unsent_made ring c rows last)

-- locks are sent on at place 4 alone
release_last : (c : ℕ) (rows : List InstanceView) → sends_locks_on c rows ≡ true → nat_eq (place_of c) release_place ≡ true
release_last c rows some = elim (cases_Bool (nat_eq (place_of c) release_place)) [
  | inl last ↦ last
  | inr early ↦ (let none = none_before c rows early in absurd (cc (sym some ∙ none)))
]

mute_own : (config : Config) (id : ℕ) (rows : List InstanceView) → AllByRecursion (IsOwnMade config id) (all_mute rows)
mute_own config id [] = tt
mute_own config id (row ∷ rows) = (tt, mute_own config id rows)

unsent_own : (config : Config) (id : ℕ) (rows : List InstanceView) → AllByRecursion (IsOwnMade config id) (all_unsent rows)
unsent_own config id [] = tt
unsent_own config id (row ∷ rows) = (tt, unsent_own config id rows)

-- it makes this at each height
pub all_of_it : (m : RoundStatement) (c : ℕ) (rows : List InstanceView) (xs : List RoundClosing)
    → map (λ x. x.ending) xs ≡ map (λ row. opened_effects row c) rows → AllByRecursion (λ x. x.made ≡ m) xs → mades xs ≡ map (λ row. m) rows
all_of_it m c [] [] endings all = refl
all_of_it m c [] (x ∷ xs) endings all = absurd cc
all_of_it m c (row ∷ rows) [] endings all = absurd cc
all_of_it m c (row ∷ rows) (x ∷ xs) endings all =
    let rest : map (λ x. x.ending) xs ≡ map (λ row. opened_effects row c) rows = cc in
    rw all.0 (ap (λ ms. m ∷ ms) (all_of_it m c rows xs rest all.1))

module _ (meaning : Meanings) (held : ReplayView) (end : RoundEnded) (is_held : IsWithinLimits held) (early : held.clock < last_round) where
  abbrev c : ℕ
  c = held.clock + 1

  abbrev ss : List SignedStatement
  ss = statements_shown end.frames

  -- the frames of an end that keeps a replay one spell statements
  pub are_spelled : (entries : List Entry) → KeepsEnd meaning held entries end → AreSpelled end.frames
  are_spelled entries keeps = each_weaker (IsSentRight held.config) (λ f. is_some (reading f.frame) ≡ true) end.frames
      (λ f right. ap is_some right.spelled) keeps.lawful.1.frames

  -- a mute replica makes nothing
  pub shown_mute : (ms : List RoundStatement) → end.mute ≡ true → ms ≡ all_mute held.rows → IsShown meaning held end ms
  shown_mute ms says is = subst (IsShown meaning held end) (sym is) (record {
    made = λ entries matches. subst (λ b. AreMade held.ring b c held.rows (all_mute held.rows)) (sym says)
        (none_made held.ring c held.rows);
    frames = λ entries matches keeps.
        let shows = ends_show meaning held entries end is_held early matches keeps (λ loud. absurd (cc (sym says ∙ loud))) in
        subst (λ b. ShowsFrames held end (made_shown b c held.rows ss)) says shows.1;
    own = mute_own held.config held.id held.rows;
    count = length-map held.rows (λ row. made.Mute);
  })

  module _ (loud : end.mute ≡ false) where
    -- nor does one that sends locks on
    pub shown_release : (ms : List RoundStatement) → sends_locks_on c held.rows ≡ true → ms ≡ all_unsent held.rows
        → IsShown meaning held end ms
    shown_release ms some is = subst (IsShown meaning held end) (sym is) (record {
      made = λ entries matches.
          subst (λ b. AreMade held.ring b c held.rows (all_unsent held.rows)) (sym loud)
          (unsent_made held.ring c held.rows (release_last c held.rows some));
      frames = λ entries matches keeps.
          let shows = ends_show meaning held entries end is_held early matches keeps (λ same none. absurd (cc (sym some ∙ none))) in
          rw some at (subst (λ b. ShowsFrames held end (made_shown b c held.rows ss)) loud shows.1);
      own = unsent_own held.config held.id held.rows;
      count = length-map held.rows (λ row. made.Unsent);
    })

    module _ (none_on : sends_locks_on c held.rows ≡ false) (frames : AllByRecursion IsFrame ss) where
      -- what the frames show of each height
      shows_each : (entries : List Entry) → MatchesHistory meaning held entries → KeepsEnd meaning held entries end
          → AreMade held.ring false c held.rows (made_each (map (λ row. row.height) held.rows) ss)
          × ShowsFrames held end (made_each (map (λ row. row.height) held.rows) ss)
      shows_each entries matches keeps =
          let shows = ends_show meaning held entries end is_held early matches keeps (λ same none. frames) in
          let both = subst (λ b. AreMade held.ring b c held.rows (made_shown b c held.rows ss)
          × ShowsFrames held end (made_shown b c held.rows ss)) loud shows in
          rw none_on at both

      -- it may be made
      pub shown_each : (ms : List RoundStatement) → ms ≡ made_each (map (λ row. row.height) held.rows) ss → length ms ≡ length held.rows
          → AllByRecursion (IsOwnMade held.config held.id) ms
          → ((entries : List Entry) → MatchesHistory meaning held entries → AreMade held.ring false c held.rows ms)
          → IsShown meaning held end ms
      shown_each ms is count own may = record {
        made = λ entries matches. subst (λ b. AreMade held.ring b c held.rows ms) (sym loud) (may entries matches);
        frames = λ entries matches keeps. subst (ShowsFrames held end) (sym is) (shows_each entries matches keeps).1;
        own = own;
        count = count;
      }

      -- or it may not
      pub none_each : (ms : List RoundStatement) → ms ≡ made_each (map (λ row. row.height) held.rows) ss
          → ((entries : List Entry) → MatchesHistory meaning held entries → AreMade held.ring false c held.rows ms → ⊥)
          → KeepsNone meaning held end
      none_each ms is not entries matches keeps =
          not entries matches (subst (AreMade held.ring false c held.rows) (sym is) (shows_each entries matches keeps).0)

  -- ---- the end is followed

  -- the frames show what may be made: the frames that it makes are compared with those of the end
  pub compared_end : (new : ReplayView) (ms : List RoundStatement) (due : RoundEnded) (kept : Bool)
      → (held.mute ≡ true → end.mute ≡ true) → IsShown meaning held end ms → due ≡ round_ended held end.mute ms
      → new ≡ after_end held end.mute ms → (kept ≡ true → due.frames ≡ end.frames) → (AreShownAlike due.frames end.frames → kept ≡ true)
      → IsFollowed meaning held event.RoundEnd (reply.RoundEnded (Ok end)) kept new
  compared_end new ms due kept still shown is after same only = record {
    exact = λ entries matches. (
      λ yes.
          let ends = (rounds_end meaning held end.mute ms entries is_held early matches still (shown.made entries matches)).0 in
          subst (λ e. KeepsReplay meaning held entries event.RoundEnd (reply.RoundEnded (Ok e))) (due_is yes)
          (record { lawful = (subst (λ n. n < last_round) (sym matches.clock) early, ends.lawful); signed = ends.signed }),
      λ keeps. only (subst (λ e. AreShownAlike e.frames end.frames) (sym is) (shown.frames entries matches keeps)),
    );
    matches = λ yes entries matches.
        let ends = (rounds_end meaning held end.mute ms entries is_held early matches still (shown.made entries matches)).0 in
        subst (λ n. MatchesHistory meaning n (entries ++ record { event = event.RoundEnd; reply = reply.RoundEnded (Ok end) } ∷ []))
        (sym after)
        (subst (λ e. MatchesHistory meaning (after_end held end.mute ms)
        (entries ++ record { event = event.RoundEnd; reply = reply.RoundEnded (Ok e) } ∷ [])) (due_is yes) ends.matches);
  }
    where
      due_is : kept ≡ true → round_ended held end.mute ms ≡ end
      due_is same_frames =
          let frames : (round_ended held end.mute ms).frames ≡ end.frames = sym (ap (λ (e : RoundEnded). e.frames) is) ∙ same same_frames in
          ap (λ fs. record { mute = end.mute; frames = fs }) frames

-- a mute replica that says it is not is refused
pub speaks_again : (meaning : Meanings) (held : ReplayView) (end : RoundEnded) → held.mute ≡ true → end.mute ≡ false
    → IsFollowed meaning held event.RoundEnd (reply.RoundEnded (Ok end)) false held
speaks_again meaning held end was says = refused meaning held held event.RoundEnd (reply.RoundEnded (Ok end))
    (λ entries matches keeps. let still = keeps.lawful.1.mute (matches.mute ∙ was) in absurd (cc (sym says ∙ still)))

-- ---- the last round

-- no round is left
pub ends_over : (meaning : Meanings) (held : ReplayView) (last : LastRound) (kept : Bool) → (kept ≡ true → held.clock ≡ last_round)
    → (kept ≡ false → held.clock < last_round)
    → IsFollowed meaning held event.RoundEnd (reply.RoundEnded (Err last)) kept held
ends_over meaning held last true is goes_on = record {
  exact = λ entries matches. (
    λ yes. (let step = over meaning held (is refl) entries matches in record { lawful = step.0; signed = refl }),
    λ keeps. refl,
  );
  matches = λ yes entries matches. (over meaning held (is refl) entries matches).2;
}
ends_over meaning held last false is goes_on =
    refused meaning held held event.RoundEnd (reply.RoundEnded (Err last))
    (λ entries matches keeps. let left = goes_on refl in let over = keeps.lawful in let now =
    matches.clock in absurd (omega (arith, left, over, now)))

-- a round that ends after the last is refused
pub ends_late : (meaning : Meanings) (held : ReplayView) (end : RoundEnded) → held.clock ≡ last_round
    → IsFollowed meaning held event.RoundEnd (reply.RoundEnded (Ok end)) false held
ends_late meaning held end is =
    refused meaning held held event.RoundEnd (reply.RoundEnded (Ok end))
    (λ entries matches keeps. let left = keeps.lawful.0 in let now = matches.clock in absurd (omega (arith, left, is, now)))
