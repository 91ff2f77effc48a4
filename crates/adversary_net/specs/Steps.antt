-- One step of a running cluster: which event it stands for, and what it does to a replica.
use Rattle.ledger_model.specs.Meanings.{Meanings}
use Rattle.std.specs.Prelude.{◌≡◌, ℕ, ◌+◌, ◌<◌, ◌≤◌, length, Option, Some, None, Result, Ok, Err}
use Rattle.ledger_model.specs.Limits.{max_history_len}
use Rattle.ledger_model.specs.declared.event.Event.{Event}
use Rattle.ledger_model.specs.declared.world.WorldStep.{WorldStep}
use Rattle.ledger_model.specs.declared.world.WorldReply.{WorldReply}
use Rattle.ledger_model.specs.declared.world.WorldReply.TheVariants as answer
use Rattle.ledger_model.specs.declared.world.WorldRefusal.{WorldRefusal}
use Rattle.ledger_model.specs.declared.world.WorldRefusal.TheVariants as refused
use Rattle.ledger_model.specs.Worlds.{entries_in, event_of, StepsBy}
use Rattle.locked_replica.specs.Applying.{AppliesEvent, IsSound}
use Rattle.locked_replica.specs.States.{StateView, may_lose}
use Rattle.adversary_net.specs.declared.party.Party.{Party}
use Rattle.adversary_net.specs.declared.party.Party.TheVariants as party
use Rattle.adversary_net.specs.WorldViews.{WorldView, IsCluster, world_of}
use Rattle.adversary_net.specs.Leaves.{IsAnswered}

-- why a step may not name the party
abbrev pub fault_in : Option (Party StateView) → Option WorldRefusal
fault_in None = Some refused.NoSuchReplica
fault_in (Some (party.Liar keys)) = Some refused.Liar
fault_in (Some (party.Correct s)) = None

-- the reply to a step with this outcome
abbrev pub answered : Result (ℕ × ℕ) WorldRefusal → WorldReply
answered (Ok (r, i)) = answer.Done r i
answered (Err f) = answer.Refused f

-- the step, which is this event at this replica, is refused with this cause
abbrev pub Refused : Meanings → WorldView → Result (ℕ × Event) WorldRefusal → WorldRefusal → Type 0
Refused meaning c asked f = StepsBy meaning c.config c.ring (world_of c) asked (answer.Refused f) (world_of c)

-- the step is this event at this replica, whose history has room
pub record IsReady (c : WorldView) (asked : Result (ℕ × Event) WorldRefusal) (r : ℕ) (e : Event) : Type 0 where
  pub is : asked ≡ Ok (r, e)
  pub room : length (entries_in (world_of c) r) < max_history_len

-- the outcome of resolving a step: an event at a replica whose history has room, or a refusal
abbrev pub ResolvesTo : Meanings → WorldView → WorldStep → Result (ℕ × Event) WorldRefusal → Type 0
ResolvesTo meaning c s (Ok p) = IsReady c (event_of c.config (world_of c) s) p.0 p.1
ResolvesTo meaning c s (Err f) = Refused meaning c (event_of c.config (world_of c) s) f

-- the replica applied the event, whose entry has this index
pub record AppliesAt (meaning : Meanings) (old : StateView) (event : Event) (index : ℕ) (new : StateView) : Type 0 where
  pub place : index ≡ length old.entries
  pub applies : AppliesEvent meaning old event new
  pub sound : IsSound meaning new

-- the party is the correct replica, with one more lawful entry
abbrev pub AppliesTo : Meanings → StateView → Event → ℕ → Party StateView → Type 0
AppliesTo meaning s event index p = (new : StateView) × ((p ≡ party.Correct new) × AppliesAt meaning s event index new)

-- the replica is as it was, except that it may have used leaves, if it was to sign at the event
pub record Stays (old : StateView) (event : Event) (new : StateView) : Type 0 where
  pub same : new ≡ record old { used = new.used }
  pub least : old.used ≤ new.used
  pub most : new.used ≤ old.used + may_lose old event

-- the party is the correct replica as it was, except that it may have used leaves
abbrev pub StaysAs : StateView → Event → Party StateView → Type 0
StaysAs s event p = (new : StateView) × ((p ≡ party.Correct new) × Stays s event new)

-- the cluster took the step: the reply is right, and the cluster's invariants still hold
pub record Went (meaning : Meanings) (old new : WorldView) (s : WorldStep) (a : WorldReply) : Type 0 where
  pub cluster : IsCluster meaning new
  pub answered : IsAnswered meaning old s a new
