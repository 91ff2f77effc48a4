-- A running cluster as contracts see it: its replicas by number, and the order in which entries were added.
use Rattle.ledger_model.specs.Meanings.{Meanings}
use Rattle.std.specs.Prelude.{◌≡◌, ℕ, Bool, true, false, List, [], map, take, length, Option, Some, None, Result, slice_get, slice_set}
use Rattle.std.specs.Prelude.{option_and_then}
use Rattle.std.specs.List.{list_any, filter_map}
use Rattle.ledger_model.specs.declared.config.Config.{Config}
use Rattle.ledger_model.specs.declared.history.Entry.{Entry}
use Rattle.ledger_model.specs.declared.history.History.{History}
use Rattle.ledger_model.specs.declared.world.WorldRefusal.TheVariants as refused
use Rattle.ledger_model.specs.declared.world.WorldReply.{WorldReply}
use Rattle.ledger_model.specs.declared.world.WorldReply.TheVariants as answer
use Rattle.ledger_model.specs.declared.world.WorldStep.{WorldStep}
use Rattle.ledger_model.specs.Applications.{Machine, run}
use Rattle.ledger_model.specs.Commits.{commits_of}
use Rattle.ledger_model.specs.Groups.{history_of}
use Rattle.ledger_model.specs.Lawful.{Replay}
use Rattle.ledger_model.specs.Rules.{Ring}
use Rattle.ledger_model.specs.Timelines.{AreReplicas}
use Rattle.ledger_model.specs.Worlds.{World, beginning, Runs, IsReplyOn}
use Rattle.lms_tree.specs.Trees.{Secret}
use Rattle.key_ring.specs.Signers.{SignerView, SignsAs}
use Rattle.key_ring.specs.declared.fault.SignFault.{SignFault}
use Rattle.locked_replica.specs.States.{StateView, AccountsForLeaves, SignsEachOnce, UsesAsSigned}
use Rattle.adversary_net.specs.declared.party.Party.{Party}
use Rattle.adversary_net.specs.declared.party.Party.TheVariants as party

-- a cluster that runs
pub record WorldView : Type 0 where
  pub config : Config
  pub ring : Ring
  pub parties : List (Party StateView)
  pub order : List ℕ

-- ---- the correct replicas and the liars

-- the correct replica of the party, if it is one
abbrev pub state_in : Party StateView → Option StateView
state_in (party.Correct s) = Some s
state_in (party.Liar keys) = None

-- the key pair of the party, if it is a liar
abbrev pub liar_in : Party StateView → Option SignerView
liar_in (party.Correct s) = None
liar_in (party.Liar keys) = Some keys

-- the correct replica with this number
abbrev pub state_at : WorldView → ℕ → Option StateView
state_at c r = option_and_then state_in (slice_get c.parties r)

-- the key pair of the liar with this number
abbrev pub liar_at : WorldView → ℕ → Option SignerView
liar_at c r = option_and_then liar_in (slice_get c.parties r)

-- the correct replicas, in ascending order of their numbers
abbrev pub states_of : WorldView → List StateView
states_of c = filter_map state_in c.parties

-- the numbers of the correct replicas
abbrev pub correct_of : WorldView → List ℕ
correct_of c = map (λ s. s.id) (states_of c)

-- the machine of a correct replica's application; for other numbers, the opening machine
abbrev pub machine_in : Meanings → WorldView → ℕ → Machine
machine_in meaning c r = machine_if (state_at c r)
  where
    machine_if : Option StateView → Machine
    machine_if None = run meaning c.config.kind []
    machine_if (Some s) = s.machine

-- ---- the world of the definitions

-- the history of a replica
abbrev pub history_in : StateView → History
history_in s = record { replica = s.id; entries = s.entries }

-- the histories of the correct replicas, and the order of their entries
abbrev pub world_of : WorldView → World
world_of c = record { histories = map history_in (states_of c); order = c.order }

-- ---- the invariants of a running cluster

-- The correct replica with this number belongs to the cluster. Its history is a replay, its machine is the application
-- run alone on what it committed, it is mute only if too few leaves were left, and no leaf signs two of its statements.
pub record IsMemberAt (meaning : Meanings) (c : WorldView) (r : ℕ) (s : StateView) : Type 0 where
  pub config : s.config ≡ c.config
  pub ring : s.ring ≡ c.ring
  pub id : s.id ≡ r
  pub replay : Replay meaning c.config c.ring r s.entries
  pub machine : s.machine ≡ run meaning c.config.kind (commits_of c.config r s.entries)
  pub account : AccountsForLeaves s
  pub once : SignsEachOnce s

-- the reply is that memory ran out
abbrev pub is_out_of_memory : WorldReply → Bool
is_out_of_memory (answer.Refused refused.NoMemory) = true
is_out_of_memory _ = false

-- some steps with some replies lead from the start to this world
pub record HasRun (meaning : Meanings) (c : WorldView) : Type 0 where
  pub steps : List WorldStep
  pub answers : List WorldReply
  pub runs : Runs meaning c.config c.ring (beginning (correct_of c)) steps answers (world_of c)

-- each number below N has its party, at most t of them lie, and what happened is a run
pub record IsCluster (meaning : Meanings) (c : WorldView) : Type 0 where
  pub size : length c.parties ≡ c.config.replicas
  pub members : (r : ℕ) (s : StateView) → state_at c r ≡ Some s → IsMemberAt meaning c r s
  pub replicas : AreReplicas c.config (correct_of c)
  pub ran : HasRun meaning c

-- ---- what every step leaves unchanged

-- the fixed part of a party: a correct replica with this secret, or a liar with this key pair
pub data Role : Type 0 where
  Follows : Secret → Role
  Lies : SignerView → Role

-- the fixed part of the party
abbrev pub role_of : Party StateView → Role
role_of (party.Correct s) = Follows s.secret
role_of (party.Liar keys) = Lies keys

-- both are the same cluster, at an earlier and a later time
pub record IsSameCluster (old new : WorldView) : Type 0 where
  pub config : new.config ≡ old.config
  pub ring : new.ring ≡ old.ring
  pub roles : map role_of new.parties ≡ map role_of old.parties

-- ---- replays

-- the history of each correct replica is a replay: each entry is lawful after those before it, and what it sends is signed
abbrev pub AllReplay : Meanings → WorldView → Type 0
AllReplay meaning c = (r : ℕ) (s : StateView) → state_at c r ≡ Some s → Replay meaning c.config c.ring r s.entries

-- ---- leaves

-- each leaf of each correct replica is accounted for, and the replica is mute only if too few were left
abbrev pub AllAccountForLeaves : WorldView → Type 0
AllAccountForLeaves c = (r : ℕ) (s : StateView) → state_at c r ≡ Some s → AccountsForLeaves s

-- no leaf signs two of the statements that a correct replica sends
abbrev pub EachSignsOnce : WorldView → Type 0
EachSignsOnce c = (r : ℕ) (s : StateView) → state_at c r ≡ Some s → SignsEachOnce s

-- each correct replica is still there; each statement of its own that was added to its history used one leaf, and
-- nothing else used one
abbrev pub EachUsesAsSigned : WorldView → WorldView → Type 0
EachUsesAsSigned old new = (r : ℕ) (s : StateView) → state_at old r ≡ Some s
    → (t : StateView) × ((state_at new r ≡ Some t) × UsesAsSigned s t)

-- the same, if no reply is that memory ran out
abbrev pub UsesAsAnswered : WorldView → List WorldReply → WorldView → Type 0
UsesAsAnswered old answers new = list_any is_out_of_memory answers ≡ false → EachUsesAsSigned old new

-- ---- replies of the applications

-- each reply of an application is what the application run alone on the blocks committed until then replies
abbrev pub OwnReplies : Meanings → Config → List History → Type 0
OwnReplies meaning config histories =
    (r i : ℕ) (m : History) (e : Entry) → history_of histories r ≡ Some m → slice_get m.entries i ≡ Some e
    → IsReplyOn meaning config (commits_of config r m.entries) (length (commits_of config r (take i m.entries))) e.event e.reply

-- ---- what a liar signs

-- the party is a liar, whose next leaf signs the message
abbrev pub LiarSigns : {X : Type 0} → (X → List ℕ) → Party StateView → List ℕ → Result X SignFault → Party StateView → Type 0
LiarSigns view p message answer q =
    (old : SignerView) × (new : SignerView) × ((p ≡ party.Liar old) × (q ≡ party.Liar new) × SignsAs view old message answer new)

-- the liar's next leaf signs the message, and nothing else changes
abbrev pub SignsFor : {X : Type 0} → (X → List ℕ) → WorldView → ℕ → List ℕ → Result X SignFault → WorldView → Type 0
SignsFor view c r message answer d =
    (old : SignerView) × (new : SignerView)
    × ((liar_at c r ≡ Some old) × SignsAs view old message answer new
    × (d ≡ record c { parties = slice_set c.parties r (party.Liar new) }))
