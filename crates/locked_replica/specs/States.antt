-- A replica as contracts see it: its configuration and keys, the number of leaves that it used, its history, and its
-- application as a state machine.
use Rattle.ledger_model.specs.Meanings.{Meanings}
use Rattle.std.specs.Prelude.{◌≡◌, ℕ, ◌+◌, ◌<◌, ◌≤◌, nat_lt, Bool, false, not, ◌&&◌, ◌||◌, List, [], Some, length, slice_get, if◌then◌else◌}
use Rattle.ledger_model.specs.Limits.{last_round, max_history_len}
use Rattle.ledger_model.specs.declared.config.Config.{Config}
use Rattle.ledger_model.specs.declared.event.Event.{Event}
use Rattle.ledger_model.specs.declared.event.Event.TheVariants as event
use Rattle.ledger_model.specs.declared.history.Entry.{Entry}
use Rattle.ledger_model.specs.Applications.{Machine, run}
use Rattle.ledger_model.specs.Commits.{commits_of}
use Rattle.ledger_model.specs.Rules.{Ring}
use Rattle.ledger_model.specs.Logs.{is_mute}
use Rattle.ledger_model.specs.Lawful.{Replay, clock_at}
use Rattle.lms_tree.specs.Trees.{Secret}
use Rattle.key_ring.specs.Signers.{SignerView, public_key_of, leaves_of}
use Rattle.replica_core.specs.Replays.{ReplayView, MatchesHistory}
use Rattle.replica_core.specs.Leaves.{due_by, signed_by, LeafAccount}
use Rattle.replica_core.specs.LeafOrder.{SignsOnce}

-- a replica as contracts see it; `used` is the number of leaves that it used
pub record StateView : Type 0 where
  pub config : Config
  pub id : ℕ
  pub ring : Ring
  pub secret : Secret
  pub used : ℕ
  pub entries : List Entry
  pub machine : Machine

-- its key pair, with the number of leaves that it used
abbrev pub keys_in : StateView → SignerView
keys_in r = record { secret = r.secret; used = r.used }

-- the replica's number is below N, and the ring has its public key at that number
pub record IsMember (config : Config) (id : ℕ) (ring : Ring) (secret : Secret) : Type 0 where
  pub below : id < config.replicas
  pub own : slice_get ring id ≡ Some (public_key_of secret)

-- a replica with an empty history, whose application is in its opening state
abbrev pub new_state : Meanings → Config → ℕ → Ring → SignerView → StateView
new_state meaning config id ring keys = record {
  config = config;
  id = id;
  ring = ring;
  secret = keys.secret;
  used = keys.used;
  entries = [];
  machine = run meaning config.kind [];
}

-- the replica that has this core state, these keys and this history
abbrev pub replica_of : ReplayView → SignerView → List Entry → StateView
replica_of held keys entries = record {
  config = held.config;
  id = held.id;
  ring = held.ring;
  secret = keys.secret;
  used = keys.used;
  entries = entries;
  machine = held.machine;
}

-- The history has at most 65,536 entries, each lawful after those before it; the core state is what the history makes
-- of it; each used leaf is accounted for; and no leaf signs two of its statements.
pub record IsReplica (meaning : Meanings) (held : ReplayView) (keys : SignerView) (entries : List Entry) : Type 0 where
  pub few : length entries ≤ max_history_len
  pub replay : Replay meaning held.config held.ring held.id entries
  pub matches : MatchesHistory meaning held entries
  pub account : LeafAccount held.config held.id (leaves_of keys.secret) keys.used entries
  pub once : SignsOnce keys.secret keys.used entries

-- its application is in the state that it reaches when it runs alone on the committed blocks
unfoldable pub RunsAlone : Meanings → StateView → Type 0
RunsAlone meaning r = r.machine ≡ run meaning r.config.kind (commits_of r.config r.id r.entries)

-- ---- its leaves

-- Each statement of its own that its history sends used one leaf; round ends that failed because memory ran out used
-- the others. If the replica is mute, too few leaves were left.
abbrev pub AccountsForLeaves : StateView → Type 0
AccountsForLeaves r = LeafAccount r.config r.id (leaves_of r.secret) r.used r.entries

-- The statements of its own that its history sends are signed with leaves that ascend: no leaf signs two of them.
abbrev pub SignsEachOnce : StateView → Type 0
SignsEachOnce r = SignsOnce r.secret r.used r.entries

-- the number of its own statements that it sends as the next round opens, unless it is mute
abbrev pub due_next : StateView → ℕ
due_next r = due_by r.config r.id r.entries

-- whether the event opens a round and fewer leaves are left than the replica has statements to sign
abbrev pub lacks_leaves : StateView → Event → Bool
lacks_leaves r event.RoundEnd = nat_lt (clock_at r.entries) last_round && nat_lt (leaves_of r.secret) (r.used + due_next r)
lacks_leaves r _ = false

-- whether the replica is mute after the event
abbrev pub is_mute_after : StateView → Event → Bool
is_mute_after r e = is_mute r.entries || lacks_leaves r e

-- whether it signs what is due at the event: the event opens a round, and the replica isn't mute then
abbrev pub signs_at : StateView → Event → Bool
signs_at r event.RoundEnd = nat_lt (clock_at r.entries) last_round && not (is_mute_after r event.RoundEnd)
signs_at r _ = false

-- how many leaves it may lose if memory runs out at the event: as many as it was to sign
abbrev pub may_lose : StateView → Event → ℕ
may_lose r e = if signs_at r e then due_next r else 0

-- each statement of its own that was added to its history used one leaf, and nothing else used one
abbrev pub UsesAsSigned : StateView → StateView → Type 0
UsesAsSigned old new = new.used + signed_by old.entries ≡ old.used + signed_by new.entries
