-- A running cluster as contracts see it.
use Rattle.std.specs.Prelude.{◌≡◌, ℕ, ◌+◌, ◌≤◌, Bool, false, List, [], ◌∷◌, length, map}
use Rattle.ledger_model.specs.declared.config.Config.{Config}
use Rattle.std.specs.List.{All, range_with_len}
use Rattle.ledger_model.specs.Rules.{Ring}
use Rattle.ledger_model.specs.declared.version.Version.{Version}
use Rattle.locked_replica.specs.States.{StateView}
use Rattle.commit_board.specs.Seats.{BoardId, WriterSeatView, ReaderSeatView, new_writer}
use Rattle.inbox.specs.Passes.{InboxId}
use Rattle.cluster_workers.specs.declared.round_clock.Pace.{Pace}
use Rattle.cluster_workers.specs.declared.work_plan.WorkPlan.{WorkPlan}

-- the number of its replicas, the board of their heights, the configuration and the keys that each replica has, and the states with
-- which the replicas began
pub record RunningClusterView : Type 0 where
  pub replicas : ℕ
  pub board : BoardId
  pub config : Config
  pub ring : Ring
  pub begun : List StateView

-- the state is that of this replica of the cluster
pub record IsStateOf (cluster : RunningClusterView) (replica : ℕ) (state : StateView) : Type 0 where
  pub id : state.id ≡ replica
  pub config : state.config ≡ cluster.config
  pub ring : state.ring ≡ cluster.ring

-- the seats of `count` replicas from number `first` on, in order, through which nothing was published
abbrev pub AreDealt : BoardId → ℕ → ℕ → List WriterSeatView → Type 0
AreDealt board first count seats = seats ≡ map (λ r. new_writer board r) (range_with_len first count)

-- at least `count` readers' seats of the board
pub record AreReadersOf (board : BoardId) (count : ℕ) (seats : List ReaderSeatView) : Type 0 where
  pub enough : count ≤ length seats
  pub all : All (λ s. s.board ≡ board) seats

-- the inbox of a replica
pub record PeerInbox : Type 0 where
  pub replica : ℕ
  pub inbox : InboxId

-- these inboxes, as those of the replicas from this number on
abbrev pub peers_from : ℕ → List InboxId → List PeerInbox
peers_from first [] = []
peers_from first (inbox ∷ rest) = record { replica = first; inbox = inbox } ∷ peers_from (first + 1) rest

-- a worker: the board on which it publishes and reads heights, its replica's number, the version of its cluster's frames, what it is to
-- do, the inbox that it takes from, and the inboxes that it puts into; the number of rounds that it has ended, the
-- greatest height that it has proposed, the round in which its replica ran its last block, and whether its replica's history is full
pub record WorkerView : Type 0 where
  pub board : BoardId
  pub replica : ℕ
  pub version : Version
  pub plan : WorkPlan
  pub inbox : InboxId
  pub peers : List PeerInbox
  pub ended : ℕ
  pub proposed : ℕ
  pub ran_in : ℕ
  pub is_full : Bool

-- the worker of a replica as it begins, which publishes on this board, takes from the replica's own inbox and puts into all
abbrev pub worker_of : BoardId → Version → WorkPlan → List PeerInbox → PeerInbox → WorkerView
worker_of board version plan peers own = record {
  board = board;
  replica = own.replica;
  version = version;
  plan = plan;
  inbox = own.inbox;
  peers = peers;
  ended = 0;
  proposed = 0;
  ran_in = 0;
  is_full = false;
}

-- These are the workers of n replicas as they begin, by number. Each publishes its replica's height on this board and reads there which
-- heights all committed, takes from its replica's own inbox, and puts into the inboxes of all replicas.
pub record AreWorkersOf (board : BoardId) (replicas : ℕ) (version : Version) (plan : WorkPlan) (workers : List WorkerView) : Type 0 where
  pub inboxes : List InboxId
  pub count : length inboxes ≡ replicas
  pub are : workers ≡ map (worker_of board version plan (peers_from 0 inboxes)) (peers_from 0 inboxes)

-- a cluster whose workers ran in threads of their own, until all had ended: which cluster, its workers as they began, and the pace of the
-- clock that ended their rounds
pub record EndedRunView : Type 0 where
  pub cluster : RunningClusterView
  pub workers : List WorkerView
  pub pace : Pace

-- the keys of a cluster, as its first replica has them
abbrev pub first_ring : List StateView → Ring
first_ring [] = []
first_ring (r ∷ rs) = r.ring
