-- One entry that is followed: what is appended if it continues the replay, and that it is left out otherwise.
use Rattle.ledger_model.specs.Meanings.{Meanings}
use Rattle.std.proofs.Common.{◌≡◌, ◌∙◌, ℕ, ◌-◌, true, false, cond, List, [], ◌∷◌, ◌++◌, length, refl, sym, ap}
use Rattle.std.specs.List.{flat_map, range_with_len}
use Rattle.ledger_model.specs.declared.history.Entry.{Entry}
use Rattle.ledger_model.specs.Commits.{decision_at, floor_of}
use Rattle.ledger_model.specs.Lawful.{clock_at, is_opened}
use Rattle.replica_core.specs.Facts.{undecided_heights}
use Rattle.replica_core.specs.Following.{KeepsReplay, IsSameReplay}
use Rattle.history_follower.specs.Followers.{FollowerView}
use Rattle.replica_core.specs.Replays.{MatchesHistory}
use Rattle.run_picture.specs.declared.entry_facts.Mark.{Mark}
use Rattle.run_picture.specs.declared.following.ReplayMarks.{ReplayMarks}
use Rattle.run_picture.specs.declared.part.Part.{Part}
use Rattle.run_picture.specs.Collected.{FollowsEntry}
use Rattle.run_picture.specs.Decisions.{decision_mark, decisions_with, mark_if}
use Rattle.run_picture.specs.Retiring.{retired_marks}
use Rattle.run_picture.proofs.NewDecisions.{decided_marks}

module _ (meaning : Meanings) (part : Part) (index : ℕ) (e : Entry) (old new : FollowerView) where
  -- an entry that continues no replay
  pub not_followed : (marks : ReplayMarks)
      → ((front : List Entry) → MatchesHistory meaning old.replay front → KeepsReplay meaning old.replay front e.event e.reply → ⊥)
      → new.lost ≡ true → FollowsEntry meaning part index e old new marks marks false
  not_followed marks breaks lost = record {
    exact = λ front m. (λ yes. absurd (cc yes), λ keeps. absurd (breaks front m keeps));
    matches = λ yes. absurd (cc yes);
    lost = lost;
    left = λ no. refl;
    decisions = λ yes. absurd (cc yes);
    retired = λ yes. absurd (cc yes);
  }

  -- the marks of what it decides
  abbrev marks_at : List Entry → ℕ → ℕ → ℕ → List Mark
  marks_at front q i c = flat_map (decision_mark part q i c) (decisions_with old.replay.config old.replay.id front e)

  -- the heights that it gives up
  abbrev heights_in : List Entry → List ℕ
  heights_in front = range_with_len (floor_of front) (floor_of (front ++ e ∷ []) - floor_of front)

  -- an entry that continues each replay
  module _ (before after : ReplayMarks) (r clock floor raised : ℕ) (heights : List ℕ) (same : IsSameReplay old.replay new.replay)
      (matches : (front : List Entry) → MatchesHistory meaning old.replay front → MatchesHistory meaning new.replay (front ++ e ∷ []))
      (is : r ≡ old.replay.id)
      (opened : (front : List Entry) → MatchesHistory meaning old.replay front → clock_at front ≡ clock)
      (low : (front : List Entry) → MatchesHistory meaning old.replay front → floor_of front ≡ floor)
      (high : (entries : List Entry) → MatchesHistory meaning new.replay entries → floor_of entries ≡ raised)
      (open_at : (front : List Entry) → MatchesHistory meaning old.replay front
      → heights ≡ cond (is_opened e.reply) (undecided_heights old.replay.config old.replay.id front) [])
      (decides : (entries : List Entry) → MatchesHistory meaning new.replay entries → after.decisions.items ≡ before.decisions.items
      ++ flat_map (λ h. mark_if part r index clock h (decision_at new.replay.config new.replay.id entries h)) heights)
      (retires : after.retired.items ≡ before.retired.items
      ++ retired_marks part r index clock (range_with_len floor (raised - floor))) where
    pub followed : ((front : List Entry) → MatchesHistory meaning old.replay front → KeepsReplay meaning old.replay front e.event e.reply)
        → new.lost ≡ false → FollowsEntry meaning part index e old new before after true
    followed keeps kept = record {
      exact = λ front m. (λ yes. keeps front m, λ keeps. refl);
      matches = λ yes. matches;
      lost = kept;
      left = λ no. absurd (cc no);
      decisions = λ yes front m count.
          decides (front ++ e ∷ []) (matches front m)
          ∙ ap (λ c. before.decisions.items
          ++ flat_map (λ h. mark_if part r index clock h (decision_at c new.replay.id (front ++ e ∷ []) h)) heights) same.config
          ∙ ap (λ q. before.decisions.items
          ++ flat_map (λ h. mark_if part r index clock h (decision_at old.replay.config q (front ++ e ∷ []) h)) heights) same.id
          ∙ ap (λ hs. before.decisions.items
          ++ flat_map (λ h. mark_if part r index clock h (decision_at old.replay.config old.replay.id (front ++ e ∷ []) h)) hs) (open_at front m)
          ∙ ap (λ l. before.decisions.items ++ l)
          (decided_marks meaning old.replay new.replay front e m (matches front m) same part r index clock
          ∙ ap (λ q. marks_at front q index clock) is ∙ ap (λ i. marks_at front old.replay.id i clock) (sym count)
          ∙ ap (λ c. marks_at front old.replay.id (length front) c) (sym (opened front m)));
      retired = λ yes front m count.
          retires
          ∙ ap (λ l. before.retired.items ++ l)
          (ap (λ a. retired_marks part r index clock (range_with_len a (raised - a))) (sym (low front m))
          ∙ ap (λ b. retired_marks part r index clock (range_with_len (floor_of front) (b - floor_of front)))
          (sym (high (front ++ e ∷ []) (matches front m)))
          ∙ ap (λ q. retired_marks part q index clock (heights_in front)) is
          ∙ ap (λ i. retired_marks part old.replay.id i clock (heights_in front)) (sym count)
          ∙ ap (λ c. retired_marks part old.replay.id (length front) c (heights_in front)) (sym (opened front m)));
    }
