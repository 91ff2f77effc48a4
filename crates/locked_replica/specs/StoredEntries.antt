-- The entries of a history whose strings are stored once, in a table: an entry names them by their positions.
use Rattle.ledger_model.specs.Meanings.{Meanings}
use Rattle.std.specs.Prelude.{◌≡◌, ℕ, ◌<◌, ◌≤◌, ◌+◌, List, map, length, Result, Ok, Err}
use Rattle.std.specs.List.{AllByRecursion}
use Rattle.ledger_model.specs.declared.event.Event.{Event}
use Rattle.ledger_model.specs.declared.event.Event.TheVariants as event
use Rattle.ledger_model.specs.declared.history.Entry.{Entry}
use Rattle.ledger_model.specs.declared.reply.Ignored.{Ignored}
use Rattle.ledger_model.specs.declared.reply.Reply.{Reply}
use Rattle.ledger_model.specs.declared.reply.Reply.TheVariants as reply
use Rattle.ledger_model.specs.declared.reply.RoundEnded.{RoundEnded}
use Rattle.ledger_model.specs.declared.reply.Sent.{Sent}
use Rattle.replica_core.specs.Cores.{CoreView, IsSameReplica, is_mute_then, leaves_due}
use Rattle.replica_core.specs.Steps.{IsStep, UsesLeaves}
use Rattle.locked_replica.specs.declared.stored_entry.StoredEntry.{StoredEntry}
use Rattle.locked_replica.specs.declared.stored_entry.StoredEntry.TheVariants as stored
use Rattle.locked_replica.specs.declared.stored_entry.StoredRoundEnd.{StoredRoundEnd}
use Rattle.locked_replica.specs.declared.stored_entry.StoredFrame.{StoredFrame}
use Rattle.locked_replica.specs.Strings.{string_at, strings_at, strings_of, with_strings}

-- ---- what the positions mean

-- a sent frame, with its addressee
abbrev pub sent_of : List (List ℕ) → StoredFrame → Sent
sent_of strings s = record { addressee = s.addressee; frame = string_at strings s.position }

-- a round end
abbrev pub round_end_of : List (List ℕ) → StoredRoundEnd → RoundEnded
round_end_of strings ended = record { mute = ended.mute; frames = map (sent_of strings) ended.sent.items }

-- an entry
abbrev pub entry_of : List (List ℕ) → StoredEntry → Entry
entry_of strings (stored.Delivered position answer) = record {
  event = event.Deliver (string_at strings position);
  reply =
      reply.Delivered answer;
}
entry_of strings (stored.RoundEnded (Ok ended)) = record {
  event = event.RoundEnd;
  reply =
      reply.RoundEnded (Ok (round_end_of strings ended.value));
}
entry_of strings (stored.RoundEnded (Err last)) = record { event = event.RoundEnd; reply = reply.RoundEnded (Err last) }
entry_of strings (stored.Other entry) = entry.value

-- a history
abbrev pub entries_of : List (List ℕ) → List StoredEntry → List Entry
entries_of strings entries = map (entry_of strings) entries

-- ---- the positions are those of strings

-- the positions of sent frames are below n
abbrev pub AreSentWithin : ℕ → List StoredFrame → Type 0
AreSentWithin n sent = AllByRecursion (λ s. s.position < n) sent

-- the reply opens no round
abbrev pub EndsNone : Reply → Type 0
EndsNone r = (ended : RoundEnded) → r ≡ reply.RoundEnded (Ok ended) → ⊥

-- the positions in an entry are below n, and no round end that opened a round is stored as it is
abbrev pub IsWithin : ℕ → StoredEntry → Type 0
IsWithin n (stored.Delivered position answer) = position < n
IsWithin n (stored.RoundEnded (Ok ended)) = AreSentWithin n ended.value.sent.items
IsWithin n (stored.RoundEnded (Err last)) = Unit {0}
IsWithin n (stored.Other entry) = EndsNone entry.value.reply

-- each entry names strings of the table, and the table has each string of the history once
pub record AreStored (strings : List (List ℕ)) (entries : List StoredEntry) : Type 0 where
  pub within : AllByRecursion (IsWithin (length strings)) entries
  pub exact : strings ≡ strings_of (entries_of strings entries)

-- ---- one more entry

-- The core took the event, and this entry is stored, with the strings `after` in place of `before`: its reply is a step, and uses the
-- leaves that are used now; the replica is mute as the core is then; and only the entry's strings are added.
pub record IsTakenAs (meaning : Meanings) (old new : CoreView) (before after : List (List ℕ)) (event : Event)
    (entry : StoredEntry) : Type 0 where
  pub event_is : (entry_of after entry).event ≡ event
  pub step : IsStep meaning old.replay event (entry_of after entry).reply new.replay
  pub leaves : UsesLeaves old.keys old.replay.clock (entry_of after entry).reply new.keys
  pub mute : new.replay.mute ≡ is_mute_then old event
  pub within : IsWithin (length after) entry
  pub strings : after ≡ with_strings before (strings_at event (entry_of after entry).reply)

-- The core is of the same replica with the same keys, and no fewer leaves are used, nor more than the event may use.
pub record LeavesCore (old new : CoreView) (event : Event) : Type 0 where
  pub same : IsSameReplica old new
  pub least : old.keys.used ≤ new.keys.used
  pub most : new.keys.used ≤ old.keys.used + leaves_due old event

-- the reply is one to a delivery
abbrev pub IsDelivered : Reply → Type 0
IsDelivered r = (answer : Result (Unit {0}) Ignored) × (r ≡ reply.Delivered answer)

-- the event delivers no bytes and ends no round
abbrev pub BringsNone : Event → Type 0
BringsNone (event.Deliver bytes) = ⊥
BringsNone event.RoundEnd = ⊥
BringsNone _ = Unit {0}
