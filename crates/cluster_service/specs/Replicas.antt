-- The replicas of a running cluster at its start.
use Rattle.ledger_model.specs.Meanings.{Meanings}
use Rattle.std.specs.Prelude.{ℕ, List, [], ◌∷◌, map}
use Rattle.std.specs.List.{range_with_len}
use Rattle.ledger_model.specs.declared.event.Event.TheVariants as event
use Rattle.ledger_model.specs.declared.history.Entry.{Entry}
use Rattle.ledger_model.specs.declared.reply.Reply.TheVariants as reply
use Rattle.ledger_model.specs.Commits.{submit_reply}
use Rattle.cluster_setup.specs.declared.cluster_seed.ClusterSeed.{ClusterSeed}
use Rattle.cluster_setup.specs.Keys.{ring_of, secret_of, unused}
use Rattle.locked_replica.specs.States.{StateView, new_state}

-- the history in which a client submits the transaction
abbrev pub submitted : Meanings → ClusterSeed → List ℕ → ℕ → List Entry
submitted meaning cluster tx r = record { event = event.Submit tx; reply = reply.Submitted (submit_reply meaning cluster.config r [] tx) }
    ∷ []

-- a replica of the cluster with this history, which committed no block and signed nothing
abbrev pub begun : Meanings → ClusterSeed → List Entry → ℕ → StateView
begun meaning cluster entries r =
    record (new_state meaning cluster.config r (ring_of cluster) (unused (secret_of cluster r))) { entries = entries }

-- the replicas of the cluster, by number; the transaction was submitted to each, and nothing else happened
abbrev pub all_begun : Meanings → ClusterSeed → List ℕ → List StateView
all_begun meaning cluster tx = map (λ r. begun meaning cluster (submitted meaning cluster tx r) r) (range_with_len 0 cluster.config.replicas)
