-- What a turn of a replica is about: its committed height, its status, and the events that deliver frames.
use Rattle.std.specs.Prelude.{◌≡◌, ℕ, ◌+◌, List, map, length}
use Rattle.ledger_model.specs.declared.event.Event.{Event}
use Rattle.ledger_model.specs.declared.event.Event.TheVariants as event
use Rattle.ledger_model.specs.Commits.{commits_of}
use Rattle.ledger_model.specs.Lawful.{clock_at}
use Rattle.ledger_model.specs.Logs.{is_mute}
use Rattle.key_ring.specs.Signers.{leaves_of}
use Rattle.locked_replica.specs.States.{StateView}
use Rattle.replica_turns.specs.declared.status.ReplicaStatus.{ReplicaStatus}

-- the committed height of a replica
abbrev pub height_in : StateView → ℕ
height_in r = length (commits_of r.config r.id r.entries)

-- the status shows the replica: its open round, its committed height, its entries, the signatures that are left, and whether it is mute
pub record IsStatusOf (r : StateView) (status : ReplicaStatus) : Type 0 where
  pub rounds : status.rounds ≡ clock_at r.entries
  pub height : status.height ≡ height_in r
  pub entries : status.entries ≡ length r.entries
  pub signatures : r.used + status.signatures ≡ leaves_of r.secret
  pub mute : status.is_mute ≡ is_mute r.entries

-- the delivery of each of these frames
abbrev pub deliveries_of : List (List ℕ) → List Event
deliveries_of frames = map event.Deliver frames
