-- A replica's core as contracts see it: its state and its keys.
use Rattle.std.specs.Prelude.{◌≡◌, ℕ, ◌+◌, nat_lt, Bool, ◌||◌, if◌then◌else◌}
use Rattle.ledger_model.specs.Limits.{last_round}
use Rattle.ledger_model.specs.declared.event.Event.{Event}
use Rattle.ledger_model.specs.declared.event.Event.TheVariants as event
use Rattle.key_ring.specs.Signers.{SignerView, leaves_of}
use Rattle.replica_core.specs.Replays.{ReplayView}
use Rattle.replica_core.specs.RoundEnds.{due}

-- a replica's core
pub record CoreView : Type 0 where
  pub replay : ReplayView
  pub keys : SignerView

-- both cores are of the same replica, with the same keys
pub record IsSameReplica (old new : CoreView) : Type 0 where
  pub config : new.replay.config ≡ old.replay.config
  pub id : new.replay.id ≡ old.replay.id
  pub ring : new.replay.ring ≡ old.replay.ring
  pub secret : new.keys.secret ≡ old.keys.secret

-- the number of new statements that the next round end has to sign
abbrev pub due_then : CoreView → ℕ
due_then r = due (r.replay.clock + 1) r.replay.rows

-- whether the replica is mute after the next round end: it was before, or fewer leaves are left than it has statements to sign
abbrev pub is_mute_next : CoreView → Bool
is_mute_next r = r.replay.mute || nat_lt (leaves_of r.keys.secret) (r.keys.used + due_then r)

-- how many new statements it signs at a round end that opens a round: none where it is mute then
abbrev pub signed_next : CoreView → ℕ
signed_next r = if is_mute_next r then 0 else due_then r

-- the most leaves that an event uses
abbrev pub leaves_due : CoreView → Event → ℕ
leaves_due r event.RoundEnd = if nat_lt r.replay.clock last_round then signed_next r else 0
leaves_due r _ = 0

-- whether the replica is mute after the event
abbrev pub is_mute_then : CoreView → Event → Bool
is_mute_then r event.RoundEnd = if nat_lt r.replay.clock last_round then is_mute_next r else r.replay.mute
is_mute_then r _ = r.replay.mute
