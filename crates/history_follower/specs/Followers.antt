-- What a follower is after the entries that it took, and what following a whole history answers.
use Rattle.ledger_model.specs.Meanings.{Meanings}
use Rattle.std.specs.Prelude.{ℕ, ◌+◌, ◌<◌, Bool, List, length, take, Option, Some, None}
use Rattle.ledger_model.specs.declared.config.Config.{Config}
use Rattle.ledger_model.specs.declared.history.Entry.{Entry}
use Rattle.ledger_model.specs.Lawful.{Replay}
use Rattle.ledger_model.specs.Rules.{Ring}
use Rattle.replica_core.specs.Replays.{ReplayView}

-- the replay after the entries that were followed, and whether one was refused
pub record FollowerView : Type 0 where
  pub replay : ReplayView
  pub lost : Bool

-- entry i is the first that doesn't continue the replay of replica id
pub record StopsAt (meaning : Meanings) (config : Config) (ring : Ring) (id : ℕ) (entries : List Entry) (i : ℕ) : Type 0 where
  pub inside : i < length entries
  pub before : Replay meaning config ring id (take i entries)
  pub broken : Replay meaning config ring id (take (i + 1) entries) → ⊥

-- what following a whole history answers: nothing, where it is a replay, or where it stops being one
abbrev pub AnswersFollowing : Meanings → Config → Ring → ℕ → List Entry → Option ℕ → Type 0
AnswersFollowing meaning config ring id entries None = Replay meaning config ring id entries
AnswersFollowing meaning config ring id entries (Some i) = StopsAt meaning config ring id entries i
