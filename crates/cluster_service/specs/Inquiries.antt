-- What is answered to HTTP alone: the state that was seen under the replica's lock is that replica's, and the answer follows from it.
use Rattle.ledger_model.specs.Meanings.{Meanings}
use Rattle.std.specs.Prelude.{◌≡◌, ◌⊎◌, ℕ, ◌<◌, ◌+◌, ◌^◌, ◌-◌, ⊤, List, drop, length, min, sum_by, true, Option, Some, None, slice_get}
use Rattle.http_messages.specs.FrameCounts.{ignored_for}
use Rattle.http_messages.specs.declared.metrics.ReplicaMetrics.{ReplicaMetrics}
use Rattle.http_sessions.specs.declared.targets.AppInfo.{AppInfo}
use Rattle.http_sessions.specs.declared.targets.Delivery.{Delivery}
use Rattle.http_sessions.specs.declared.targets.Delivery.TheVariants.{Committed, TimedOut, Stopping}
use Rattle.http_sessions.specs.declared.targets.PoolSize.{PoolSize}
use Rattle.http_sessions.specs.declared.targets.Progress.{Progress}
use Rattle.http_sessions.specs.Exchanges.{Inquiry, Shows, Progresses, Pools, Infos, Spreads, Waits}
use Rattle.key_ring.specs.Signers.{public_key_of, leaves_of}
use Rattle.ledger_model.specs.Audits.{is_taken}
use Rattle.ledger_model.specs.Commits.{commits_of, pool_of}
use Rattle.ledger_model.specs.Lawful.{Replay, clock_at}
use Rattle.ledger_model.specs.declared.reply.Ignored.{Ignored}
use Rattle.locked_replica.specs.States.{StateView, AccountsForLeaves}
use Rattle.replica_core.specs.Facts.{info_reply}
use Rattle.cluster_workers.specs.RunningClusters.{RunningClusterView, IsStateOf}
use Rattle.cluster_service.specs.Deliveries.{IsDelivery, delivered_in}
use Rattle.cluster_service.specs.FrameCounting.{accepted_in, ignored_in}

-- These numbers are of this state, whose history is lawful. The history doesn't say how many frames its inbox lost, nor how many
-- signatures were lost at round ends that found no memory.
pub record ShowsState (meaning : Meanings) (m : ReplicaMetrics) (state : StateView) : Type 0 where
  pub replay : Replay meaning state.config state.ring state.id state.entries
  pub account : AccountsForLeaves state
  pub own_key : slice_get state.ring state.id ≡ Some (public_key_of state.secret)
  pub rounds : m.rounds ≡ clock_at state.entries
  pub height : m.height ≡ length (commits_of state.config state.id state.entries)
  pub signatures : state.used + m.signatures_left ≡ leaves_of state.secret
  pub pool : m.pool_transactions ≡ length (pool_of meaning state.config state.id state.entries)
  pub entries : m.history_entries ≡ length state.entries
  pub accepted : m.frames.accepted ≡ accepted_in state.entries
  pub ignored : (cause : Ignored) → ignored_for m.frames cause ≡ ignored_in cause state.entries

-- the open round of the state, whose history is lawful, and the height that it has committed
pub record IsProgress (meaning : Meanings) (progress : Progress) (state : StateView) : Type 0 where
  pub replay : Replay meaning state.config state.ring state.id state.entries
  pub rounds : progress.rounds ≡ clock_at state.entries
  pub height : progress.height ≡ length (commits_of state.config state.id state.entries)

-- the state, whose history is lawful, has this number of transactions in its pool, and they have this number of bytes
pub record IsPooled (meaning : Meanings) (size : PoolSize) (state : StateView) : Type 0 where
  pub replay : Replay meaning state.config state.ring state.id state.entries
  pub transactions : size.transactions ≡ length (pool_of meaning state.config state.id state.entries)
  pub bytes : size.bytes ≡ min (sum_by length (pool_of meaning state.config state.id state.entries)) (2 ^ 64 - 1)

-- the application of the state, whose history is lawful, says this of itself
pub record IsInfo (meaning : Meanings) (info : AppInfo) (state : StateView) : Type 0 where
  pub replay : Replay meaning state.config state.ring state.id state.entries
  pub kind : info.kind ≡ state.config.kind
  pub reply : record { height = info.height; hash = info.hash }
      ≡ info_reply meaning state.config.kind (commits_of state.config state.id state.entries)

-- no block of the state, whose history is lawful, has the transaction, from the entry with this index on
pub record IsUndelivered (meaning : Meanings) (tx : List ℕ) (index : ℕ) (state : StateView) : Type 0 where
  pub replay : Replay meaning state.config state.ring state.id state.entries
  pub none : delivered_in (commits_of state.config state.id state.entries) (drop index state.entries) tx ≡ None

-- the states that an inquiry saw under the locks of replicas: the last, and the one of the replica that took a transaction as a wait for its
-- block looked at that replica
pub record SeenView : Type 0 where
  pub last : Option StateView
  pub taker : Option StateView

-- the state that was seen is this replica's, and this holds of it
abbrev pub SeesOwn : RunningClusterView → ℕ → Option StateView → (StateView → Type 0) → Type 0
SeesOwn cluster r (Some state) P = IsStateOf cluster r state × P state
SeesOwn cluster r None P = ⊥

-- the state that was seen isn't this replica's
abbrev pub SeesStranger : RunningClusterView → ℕ → Option StateView → Type 0
SeesStranger cluster r (Some state) = IsStateOf cluster r state → ⊥
SeesStranger cluster r None = ⊥

-- the state, whose history is lawful, took the transaction into its pool by the entry with this index, and has no block with the transaction
-- from that entry on, and no block at this height or above
pub record IsPendingBelow (meaning : Meanings) (tx : List ℕ) (index height : ℕ) (state : StateView) : Type 0 where
  pub taken : is_taken tx (slice_get state.entries index) ≡ true
  pub undelivered : IsUndelivered meaning tx index state
  pub below : length (commits_of state.config state.id state.entries) < height

-- a replica of the cluster, whose state was seen last, has run a block at this height, which has the transaction, and the application returned
-- this code for it
pub record IsDeliveredBySome (meaning : Meanings) (cluster : RunningClusterView) (last : Option StateView) (tx : List ℕ) (height code : ℕ)
    : Type 0 where
  pub replica : ℕ
  pub known : replica < cluster.replicas
  pub delivered : SeesOwn cluster replica last (IsDelivery meaning tx 0 height code)

-- The block with the transaction came after the entry with this index, in which replica `r` took it. Either `r`, seen last, ran the block by
-- that entry or a later one; or some replica, seen last, ran it, and `r` was seen with that entry and without a block at this height.
abbrev pub IsDeliveredAfter : Meanings → RunningClusterView → ℕ → SeenView → List ℕ → ℕ → ℕ → ℕ → Type 0
IsDeliveredAfter meaning cluster r seen tx index height code = SeesOwn cluster r seen.last (IsDelivery meaning tx index height code)
    ⊎ (IsDeliveredBySome meaning cluster seen.last tx height code × SeesOwn cluster r seen.taker (IsPendingBelow meaning tx index height))

-- what became of a transaction that the entry with this index of replica `r` submitted; that the server is to stop says nothing
abbrev pub AnswersWait : Meanings → RunningClusterView → ℕ → SeenView → List ℕ → ℕ → Option Delivery → Type 0
AnswersWait meaning cluster r seen tx index (Some (Committed height code)) = IsDeliveredAfter meaning cluster r seen tx index height code
AnswersWait meaning cluster r seen tx index (Some TimedOut) = SeesOwn cluster r seen.last (IsUndelivered meaning tx index)
AnswersWait meaning cluster r seen tx index (Some Stopping) = ⊤
AnswersWait meaning cluster r seen tx index None = SeesStranger cluster r seen.last

-- what an inquiry says, by the states that were seen in it; that a transaction was spread says nothing
abbrev pub IsInquiry : Meanings → RunningClusterView → SeenView → Inquiry → Type 0
IsInquiry meaning cluster seen (Shows r (Some m)) = SeesOwn cluster r seen.last (ShowsState meaning m)
IsInquiry meaning cluster seen (Shows r None) = SeesStranger cluster r seen.last
IsInquiry meaning cluster seen (Progresses r (Some progress)) = SeesOwn cluster r seen.last (IsProgress meaning progress)
IsInquiry meaning cluster seen (Progresses r None) = SeesStranger cluster r seen.last
IsInquiry meaning cluster seen (Pools r (Some size)) = SeesOwn cluster r seen.last (IsPooled meaning size)
IsInquiry meaning cluster seen (Pools r None) = SeesStranger cluster r seen.last
IsInquiry meaning cluster seen (Infos r (Some info)) = SeesOwn cluster r seen.last (IsInfo meaning info)
IsInquiry meaning cluster seen (Infos r None) = SeesStranger cluster r seen.last
IsInquiry meaning cluster seen (Spreads r tx) = ⊤
IsInquiry meaning cluster seen (Waits r tx index delivery) = AnswersWait meaning cluster r seen tx index delivery
