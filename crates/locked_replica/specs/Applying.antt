-- What one event does to a replica: it is applied, or refused. What a list of events does is the fold of that.
use Rattle.ledger_model.specs.Meanings.{Meanings}
use Rattle.std.specs.Prelude.{◌≡◌, ◌↔◌, ℕ, ◌+◌, ◌<◌, ◌≤◌, false, IsTrue, List, [], ◌∷◌, ◌++◌, length}
use Rattle.ledger_model.specs.Limits.{max_history_len}
use Rattle.ledger_model.specs.declared.event.Event.{Event}
use Rattle.ledger_model.specs.declared.reply.Reply.{Reply}
use Rattle.ledger_model.specs.Lawful.{Lawful, Replay, clock_at, is_signed_reply}
use Rattle.ledger_model.specs.Logs.{is_mute}
use Rattle.replica_core.specs.Steps.{UsesLeaves}
use Rattle.ledger_model.specs.declared.fault.ApplyFault.{ApplyFault}
use Rattle.ledger_model.specs.declared.fault.ApplyFault.TheVariants as fault
use Rattle.locked_replica.specs.States.{StateView, RunsAlone, AccountsForLeaves, SignsEachOnce, UsesAsSigned, due_next, is_mute_after, keys_in, signs_at}

-- What each call that changes a replica leaves true of it.
pub record IsSound (meaning : Meanings) (r : StateView) : Type 0 where
  -- each entry is lawful after those before it, and each signature in a reply verifies
  pub replay : Replay meaning r.config r.ring r.id r.entries
  -- its application is in the state that it reaches when it runs alone on the committed blocks
  pub machine : RunsAlone meaning r
  -- each leaf that it used signed a statement that it sent, or is counted as lost; it is mute only if too few were left
  pub account : AccountsForLeaves r
  -- no leaf signs two of the statements that its history sends
  pub once : SignsEachOnce r

-- The replica applied the event: its history has one more entry, which is lawful and signed. Each statement of its own that the reply sends
-- used the next leaf, and nothing else changed.
pub record AppliesEvent (meaning : Meanings) (old : StateView) (event : Event) (new : StateView) : Type 0 where
  pub room : length old.entries < max_history_len
  pub reply : Reply
  pub added : new.entries ≡ old.entries ++ record { event = event; reply = reply } ∷ []
  pub lawful : Lawful meaning old.config old.ring old.id old.entries event reply
  pub signed : IsTrue (is_signed_reply old.ring reply)
  pub leaves : UsesLeaves (keys_in old) (clock_at old.entries) reply (keys_in new)
  pub used : UsesAsSigned old new
  pub least : old.used ≤ new.used
  -- it is mute exactly if it was before, or if the event opened a round and fewer leaves were left than it had statements to sign
  pub mute : is_mute new.entries ≡ is_mute_after old event
  pub rest : new ≡ record old { used = new.used; entries = new.entries; machine = new.machine }

-- The replica refused the event: because its history is full, and then nothing changed, or because memory ran out. Then only leaves may be
-- used, at most one for each statement that it was to sign at the event.
pub record RefusesEvent (old : StateView) (event : Event) (why : ApplyFault) (new : StateView) : Type 0 where
  pub full : (why ≡ fault.HistoryFull) ↔ (max_history_len ≤ length old.entries)
  pub stays : why ≡ fault.HistoryFull → new ≡ old
  pub spared : signs_at old event ≡ false → new ≡ old
  pub least : old.used ≤ new.used
  pub most : new.used ≤ old.used + due_next old
  pub rest : new ≡ record old { used = new.used }

-- the replica applied the events, one after the other
abbrev pub AppliesEach : Meanings → StateView → List Event → StateView → Type 0
AppliesEach meaning old [] new = new ≡ old
AppliesEach meaning old (e ∷ es) new = (between : StateView) × (AppliesEvent meaning old e between × AppliesEach meaning between es new)

-- The replica applied the events before the one that it refused, and no other.
pub record AppliesSome (meaning : Meanings) (old : StateView) (events : List Event) (why : ApplyFault) (new : StateView) : Type 0 where
  pub before : List Event
  pub refused : Event
  pub after : List Event
  pub split : events ≡ before ++ refused ∷ after
  -- the replica when it refused that event
  pub between : StateView
  pub applied : AppliesEach meaning old before between
  pub refuses : RefusesEvent between refused why new
