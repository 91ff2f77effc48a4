-- Which entries continue a replay, and the state after them.
use Rattle.ledger_model.specs.Meanings.{Meanings}
use Rattle.std.specs.Prelude.{◌≡◌, ◌↔◌, Bool, true, IsTrue, List, [], ◌∷◌, ◌++◌}
use Rattle.ledger_model.specs.declared.event.Event.{Event}
use Rattle.ledger_model.specs.declared.history.Entry.{Entry}
use Rattle.ledger_model.specs.declared.reply.Reply.{Reply}
use Rattle.ledger_model.specs.Lawful.{Lawful, is_signed_reply}
use Rattle.replica_core.specs.Replays.{ReplayView, MatchesHistory}

-- the entry continues the replay: its reply is lawful after these entries, and what it sends is signed
pub record KeepsReplay (meaning : Meanings) (held : ReplayView) (entries : List Entry) (event : Event) (reply : Reply) : Type 0 where
  pub lawful : Lawful meaning held.config held.ring held.id entries event reply
  pub signed : IsTrue (is_signed_reply held.ring reply)

-- for every matched history, the entry is taken exactly if it continues the replay; the new state then matches the longer history
pub record IsFollowed (meaning : Meanings) (old : ReplayView) (event : Event) (reply : Reply) (kept : Bool)
    (new : ReplayView) : Type 0 where
  pub exact : (entries : List Entry) → MatchesHistory meaning old entries → kept ≡ true ↔ KeepsReplay meaning old entries event reply
  pub matches : kept ≡ true → (entries : List Entry) → MatchesHistory meaning old entries
      → MatchesHistory meaning new (entries ++ record { event = event; reply = reply } ∷ [])

-- both states are of the same replica
pub record IsSameReplay (old new : ReplayView) : Type 0 where
  pub config : new.config ≡ old.config
  pub id : new.id ≡ old.id
  pub ring : new.ring ≡ old.ring
