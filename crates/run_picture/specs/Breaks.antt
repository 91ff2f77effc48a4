-- How far histories are shown: each up to its first entry that breaks the replay.
use Rattle.ledger_model.specs.Meanings.{Meanings}
use Rattle.std.specs.Prelude.{◌≡◌, ◌⊎◌, ⊤, ℕ, ◌+◌, ◌<◌, ◌≤◌, nat_lt, Bool, ◌&&◌, List, [], ◌∷◌, length, take, Option, Some, None}
use Rattle.std.specs.Prelude.{if◌then◌else◌}
use Rattle.std.specs.Option.{is_none}
use Rattle.ledger_model.specs.declared.config.Config.{Config}
use Rattle.ledger_model.specs.declared.history.Entry.{Entry}
use Rattle.ledger_model.specs.declared.history.History.{History}
use Rattle.ledger_model.specs.Audits.{IsFirstBreak}
use Rattle.ledger_model.specs.Groups.{history_of}
use Rattle.ledger_model.specs.Lawful.{Replay}
use Rattle.ledger_model.specs.Rules.{Ring}
use Rattle.run_picture.specs.declared.history_break.HistoryBreak.{HistoryBreak}

-- the first `count` entries are a replay, and they are all, or with the next they are none
pub record IsLongestReplay (meaning : Meanings) (config : Config) (ring : Ring) (id : ℕ) (entries : List Entry) (count : ℕ) : Type 0 where
  pub inside : count ≤ length entries
  pub replay : Replay meaning config ring id (take count entries)
  pub ends : (count ≡ length entries) ⊎ (Replay meaning config ring id (take (count + 1) entries) → ⊥)

-- what is shown of replica r's history, if it was handed in: its longest replay from the first entry on
abbrev pub ShowsReplay : Meanings → Config → Ring → ℕ → Option History → Option (List Entry) → Type 0
ShowsReplay meaning config ring r None None = ⊤
ShowsReplay meaning config ring r None (Some shown) = ⊥
ShowsReplay meaning config ring r (Some m) None = ⊥
ShowsReplay meaning config ring r (Some m) (Some shown) = (count : ℕ)
    × (IsLongestReplay meaning config ring r m.entries count × (shown ≡ take count m.entries))

-- what is shown of the replicas from r on
abbrev pub ShowReplays : Meanings → Config → Ring → List History → ℕ → List (Option (List Entry)) → Type 0
ShowReplays meaning config ring histories r [] = ⊤
ShowReplays meaning config ring histories r (row ∷ rows) =
    ShowsReplay meaning config ring r (history_of histories r) row × ShowReplays meaning config ring histories (r + 1) rows

-- the histories of the replicas below n are replays, or this is where the first breaks
abbrev pub FindsBreak : Meanings → Config → Ring → List History → ℕ → Option HistoryBreak → Type 0
FindsBreak meaning config ring histories n None =
    (r : ℕ) (m : History) → r < n → history_of histories r ≡ Some m → Replay meaning config ring r m.entries
FindsBreak meaning config ring histories n (Some b) = (b.replica < n) × IsFirstBreak meaning config ring histories b.replica b.entry

-- the first break, once `count` of all entries of replica r's history are shown
abbrev pub break_after : Option HistoryBreak → ℕ → ℕ → ℕ → Option HistoryBreak
break_after first r count all =
    if is_none first && nat_lt count all then Some (record { replica = r; entry = count }) else first
