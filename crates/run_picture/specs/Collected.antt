-- What is collected of histories, entry by entry and replica by replica.
use Rattle.ledger_model.specs.Meanings.{Meanings}
use Rattle.std.specs.Prelude.{◌≡◌, ◌↔◌, ℕ, Bool, true, false, not, List, [], ◌∷◌, ◌++◌, length, take, Option, Some, None}
use Rattle.ledger_model.specs.declared.config.Config.{Config}
use Rattle.ledger_model.specs.declared.history.Entry.{Entry}
use Rattle.ledger_model.specs.declared.history.History.{History}
use Rattle.ledger_model.specs.Lawful.{clock_at}
use Rattle.ledger_model.specs.Rules.{Ring}
use Rattle.replica_core.specs.Replays.{MatchesHistory}
use Rattle.replica_core.specs.Following.{KeepsReplay}
use Rattle.history_follower.specs.Followers.{FollowerView}
use Rattle.run_picture.specs.declared.part.Part.{Part}
use Rattle.run_picture.specs.declared.entry_facts.Mark.{Mark}
use Rattle.run_picture.specs.declared.sent_frames.SentFrame.{SentFrame}
use Rattle.run_picture.specs.declared.deliveries.Delivery.{Delivery}
use Rattle.run_picture.specs.declared.following.ReplayMarks.{ReplayMarks}
use Rattle.run_picture.specs.declared.picture.Shown.{Shown}
use Rattle.run_picture.specs.declared.picture.Collected.{Collected}
use Rattle.run_picture.specs.Orders.{shown_from}
use Rattle.run_picture.specs.Breaks.{IsLongestReplay, ShowReplays, FindsBreak, break_after}
use Rattle.run_picture.specs.Frames.{frames_of_entry, deliveries_of_entry}
use Rattle.run_picture.specs.Facts.{facts_at}
use Rattle.run_picture.specs.Decisions.{decisions_at, decisions_in}
use Rattle.run_picture.specs.Retiring.{retired_marks_of, retired_in}
use Rattle.run_picture.specs.Pictures.{rounds_in, shown_frames, shown_deliveries, facts_in, shown_decisions, all_retired}

-- these frames, deliveries and facts are appended
pub record AddsShown (old new : Shown) (ss : List SentFrame) (ds : List Delivery) (fs : List Mark) : Type 0 where
  pub sent : new.sent.items ≡ old.sent.items ++ ss
  pub deliveries : new.deliveries.items ≡ old.deliveries.items ++ ds
  pub facts : new.facts.items ≡ old.facts.items ++ fs

-- what replica r's entries show is appended
abbrev pub AddsEntries : Part → ℕ → List Entry → Shown → Shown → Type 0
AddsEntries part r entries old new =
    AddsShown old new (shown_from (frames_of_entry part r) 0 0 entries) (shown_from (deliveries_of_entry part r) 0 0 entries)
    (shown_from (facts_at part r) 0 0 entries)

-- entry e, of this index, is taken exactly if it continues each replay that the follower matches; what it decides and gives up is then
-- appended, and otherwise nothing is
pub record FollowsEntry (meaning : Meanings) (part : Part) (index : ℕ) (e : Entry) (old new : FollowerView) (before after : ReplayMarks)
    (kept : Bool) : Type 0
  where
    pub exact : (front : List Entry) → MatchesHistory meaning old.replay front
        → kept ≡ true ↔ KeepsReplay meaning old.replay front e.event e.reply
    pub matches : kept ≡ true → (front : List Entry) → MatchesHistory meaning old.replay front
        → MatchesHistory meaning new.replay (front ++ e ∷ [])
    pub lost : new.lost ≡ not kept
    pub left : kept ≡ false → after ≡ before
    pub decisions : kept ≡ true → (front : List Entry) → MatchesHistory meaning old.replay front → length front ≡ index
        → after.decisions.items ≡ before.decisions.items ++ decisions_at old.replay.config part old.replay.id front e
    pub retired : kept ≡ true → (front : List Entry) → MatchesHistory meaning old.replay front → length front ≡ index
        → after.retired.items ≡ before.retired.items ++ retired_marks_of part old.replay.id front e

-- replica r's entries were followed as far as they are a replay: their number is returned, and what they decide and give up is appended
pub record FollowsHistory (meaning : Meanings) (config : Config) (ring : Ring) (part : Part) (r : ℕ) (entries : List Entry)
    (before after : ReplayMarks)
    (count : ℕ) : Type 0 where
  pub longest : IsLongestReplay meaning config ring r entries count
  pub decisions : after.decisions.items ≡ before.decisions.items ++ decisions_in config part r (take count entries)
  pub retired : after.retired.items ≡ before.retired.items ++ retired_in part r (take count entries)

-- what replica r's history shows is appended: that of its longest replay
pub record AddsHistory (meaning : Meanings) (config : Config) (ring : Ring) (part : Part) (r : ℕ) (entries : List Entry)
    (old new : Collected) : Type 0 where
  pub count : ℕ
  pub marks : FollowsHistory meaning config ring part r entries old.marks new.marks count
  pub shown : AddsEntries part r (take count entries) old.shown new.shown
  pub rounds : new.rounds.items ≡ old.rounds.items ++ Some (clock_at (take count entries)) ∷ []
  pub breaks : new.first_break ≡ break_after old.first_break r count (length entries)

-- a replica without a history shows nothing
pub record AddsNothing (old new : Collected) : Type 0 where
  pub marks : new.marks ≡ old.marks
  pub shown : new.shown ≡ old.shown
  pub rounds : new.rounds.items ≡ old.rounds.items ++ None ∷ []
  pub breaks : new.first_break ≡ old.first_break

-- what replica r's history shows is appended, if it was handed in
abbrev pub AddsRow : Meanings → Config → Ring → Part → ℕ → Option History → Collected → Collected → Type 0
AddsRow meaning config ring part r None old new = AddsNothing old new
AddsRow meaning config ring part r (Some m) old new = AddsHistory meaning config ring part r m.entries old new

-- nothing was collected yet
pub record IsNothing (now : Collected) : Type 0 where
  pub sent : now.shown.sent.items ≡ []
  pub deliveries : now.shown.deliveries.items ≡ []
  pub facts : now.shown.facts.items ≡ []
  pub decisions : now.marks.decisions.items ≡ []
  pub retired : now.marks.retired.items ≡ []
  pub rounds : now.rounds.items ≡ []
  pub breaks : now.first_break ≡ None

-- what the histories of the replicas below n show, each as far as it is a replay, and where the first breaks
pub record Collects (meaning : Meanings) (config : Config) (ring : Ring) (part : Part) (histories : List History) (n : ℕ)
    (now : Collected) : Type 0 where
  pub rows : List (Option (List Entry))
  pub count : length rows ≡ n
  pub replays : ShowReplays meaning config ring histories 0 rows
  pub sent : now.shown.sent.items ≡ shown_frames part rows
  pub deliveries : now.shown.deliveries.items ≡ shown_deliveries part rows
  pub facts : now.shown.facts.items ≡ facts_in part rows
  pub decisions : now.marks.decisions.items ≡ shown_decisions config part rows
  pub retired : now.marks.retired.items ≡ all_retired part rows
  pub rounds : now.rounds.items ≡ rounds_in rows
  pub breaks : FindsBreak meaning config ring histories n now.first_break
