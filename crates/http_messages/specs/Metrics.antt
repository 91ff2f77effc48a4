-- The metrics of replicas, in Prometheus' text format 0.0.4.
use Rattle.std.specs.Prelude.{ℕ, List, [], ◌∷◌, ◌++◌, ◌==◌, codes, decimal}
use Rattle.std.specs.List.{flat_map, after_first}
use Rattle.ledger_model.specs.Causes.{cause_text}
use Rattle.ledger_model.specs.declared.reply.Ignored.{Ignored}
use Rattle.ledger_model.specs.declared.reply.Ignored.TheVariants as cause
use Rattle.http_messages.specs.declared.metrics.ReplicaMetrics.{ReplicaMetrics}
use Rattle.http_messages.specs.declared.metrics.Metric.{Metric}
use Rattle.http_messages.specs.declared.metrics.Metric.TheVariants as metric
use Rattle.http_messages.specs.FrameCounts.{ignored_for}
use Rattle.http_messages.specs.Texts.{joined}

-- the name of a metric
abbrev pub metric_name : Metric → List ℕ
metric_name metric.Rounds = codes "abft_rounds"
metric_name metric.Height = codes "abft_height"
metric_name metric.SignaturesLeft = codes "abft_signatures_left"
metric_name metric.PoolTransactions = codes "abft_pool_transactions"
metric_name metric.HistoryEntries = codes "abft_history_entries"
metric_name metric.FramesLost = codes "abft_frames_lost_total"
metric_name metric.FramesAccepted = codes "abft_frames_accepted_total"

-- what a metric is, in words
abbrev pub metric_help : Metric → List ℕ
metric_help metric.Rounds = codes "The open round of the replica."
metric_help metric.Height = codes "The last height that the replica committed."
metric_help metric.SignaturesLeft = codes "One-time signatures that its key pair has left."
metric_help metric.PoolTransactions = codes "Transactions that wait for a block."
metric_help metric.HistoryEntries = codes "Entries of the history."
metric_help metric.FramesLost = codes "Frames that a full inbox lost."
metric_help metric.FramesAccepted = codes "Frames that the replica accepted."

-- a number as it is now is a gauge; one that only grows is a counter
abbrev pub metric_kind : Metric → List ℕ
metric_kind metric.FramesLost = codes "counter"
metric_kind metric.FramesAccepted = codes "counter"
metric_kind _ = codes "gauge"

-- the lines that say what the metric of this name is
unfoldable pub comment_text : List ℕ → List ℕ → List ℕ → List ℕ
comment_text name help kind =
    joined (codes "# HELP " ∷ name ∷ codes " " ∷ help ∷ codes "\n# TYPE " ∷ name ∷ codes " " ∷ kind ∷ codes "\n" ∷ [])

-- the number of a metric for a replica
abbrev pub metric_value : Metric → ReplicaMetrics → ℕ
metric_value metric.Rounds of = of.rounds
metric_value metric.Height of = of.height
metric_value metric.SignaturesLeft of = of.signatures_left
metric_value metric.PoolTransactions of = of.pool_transactions
metric_value metric.HistoryEntries of = of.history_entries
metric_value metric.FramesLost of = of.frames_lost
metric_value metric.FramesAccepted of = of.frames.accepted

-- the line of a metric for a replica
unfoldable pub sample_text : Metric → ReplicaMetrics → List ℕ
sample_text metric of =
    joined (metric_name metric ∷ codes "{replica=\"" ∷ decimal of.replica ∷ codes "\"} " ∷ decimal (metric_value metric of) ∷ codes "\n" ∷ [])

-- the lines of a metric for all replicas
abbrev pub metric_text : List ReplicaMetrics → Metric → List ℕ
metric_text replicas metric =
    comment_text (metric_name metric) (metric_help metric) (metric_kind metric) ++ flat_map (sample_text metric) replicas

-- the name of a cause: its text after the number and a space
abbrev pub cause_name : Ignored → List ℕ
cause_name cause = after_first (λ b. b == 32) (cause_text cause)

-- all causes, in the order of their numbers
abbrev pub all_causes : List Ignored
all_causes =
    cause.Malformed ∷ cause.Signer ∷ cause.NoRow ∷ cause.WrongRound ∷ cause.WrongPhase ∷ cause.NotOwner ∷ cause.Repeated
    ∷ cause.BadSignature ∷ cause.BadProof ∷ cause.TableFull ∷ cause.NotMine ∷ []

-- the line of the frames that a replica ignored for a cause
unfoldable pub ignored_text : ReplicaMetrics → Ignored → List ℕ
ignored_text of cause =
    joined (codes "abft_frames_ignored_total{replica=\"" ∷ decimal of.replica ∷ codes "\",cause=\"" ∷ cause_name cause
    ∷ codes "\"} " ∷ decimal (ignored_for of.frames cause) ∷ codes "\n" ∷ [])

-- the lines of the metric of ignored frames: for each replica, a line for each cause
abbrev pub all_ignored_text : List ReplicaMetrics → List ℕ
all_ignored_text replicas =
    comment_text
    (codes "abft_frames_ignored_total") (codes "Frames that the replica ignored, by the first cause that fits.") (codes "counter")
    ++ flat_map (λ of. flat_map (ignored_text of) all_causes) replicas

-- all metrics with one number for each replica, in the order of their lines
abbrev pub all_metrics : List Metric
all_metrics =
    metric.Rounds ∷ metric.Height ∷ metric.SignaturesLeft ∷ metric.PoolTransactions ∷ metric.HistoryEntries ∷ metric.FramesLost
    ∷ metric.FramesAccepted ∷ []

-- the metrics of these replicas
unfoldable pub metrics_text : List ReplicaMetrics → List ℕ
metrics_text replicas = flat_map (metric_text replicas) all_metrics ++ all_ignored_text replicas
