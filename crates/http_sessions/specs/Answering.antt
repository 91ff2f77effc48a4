-- How a request is answered: the exchanges that it makes, and the answer by what the replicas answered.
use Rattle.std.specs.Prelude.{◌≡◌, ◌⊎◌, ◌≢◌, ℕ, zero, suc, ◌<◌, ◌≤◌, ◌==◌, min}
use Rattle.std.specs.Prelude.{List, [], ◌∷◌, ◌++◌, map, Option, Some, None, IfSome, unwrap_or, Result, Ok, Err, MatchResult, Vec}
use Rattle.std.specs.Prelude.{if◌then◌else◌}
use Rattle.std.specs.declared.alloc.Global.{Global}
use Rattle.std.specs.List.{FoldsTo, range_with_len}
use Rattle.ledger_model.specs.Values.{Value}
use Rattle.ledger_model.specs.declared.reply.QueryAnswer.{QueryAnswer}
use Rattle.ledger_model.specs.declared.reply.SubmitRefusal.{SubmitRefusal}
use Rattle.ledger_model.specs.declared.fault.ApplyFault.{ApplyFault}
use Rattle.ledger_model.specs.declared.fault.ApplyFault.TheVariants as apply
use Rattle.ledger_model.specs.Sessions.{Submits, Queries, Heights, Blocks}
use Rattle.http_messages.specs.declared.fault.RequestFault.{RequestFault}
use Rattle.http_messages.specs.declared.fault.RequestFault.TheVariants as fault
use Rattle.http_messages.specs.declared.request.Request.{Request}
use Rattle.http_messages.specs.Questions.{QuestionView, question_view}
use Rattle.http_messages.specs.Questions as question
use Rattle.http_messages.specs.declared.answer.Commitment.TheVariants as commitment
use Rattle.http_messages.specs.declared.answer.ServiceFault.TheVariants as service
use Rattle.http_messages.specs.declared.answer.Submission.TheVariants as submission
use Rattle.http_messages.specs.declared.metrics.ReplicaMetrics.{ReplicaMetrics}
use Rattle.http_messages.specs.Answers.{AnswerView, Page, Health, Status, AbciInfo, AbciQuery, Block, UnconfirmedTxs, BroadcastSync}
use Rattle.http_messages.specs.Answers.{BroadcastCommit, Metrics, Fault, Unanswered}
use Rattle.http_messages.specs.Replies.{http_reply_bytes}
use Rattle.http_sessions.specs.declared.targets.AppInfo.{AppInfo}
use Rattle.http_sessions.specs.declared.targets.Delivery.{Delivery}
use Rattle.http_sessions.specs.declared.targets.Delivery.TheVariants as delivery
use Rattle.http_sessions.specs.declared.targets.PoolSize.{PoolSize}
use Rattle.http_sessions.specs.declared.targets.Progress.{Progress}
use Rattle.http_sessions.specs.Exchanges.{HttpExchange, Asked, Inquired, Shows, Progresses, Pools, Infos, Spreads, Waits}
use Rattle.http_sessions.specs.Choosing.{IsChosen, exchanges_of_heights}
use Rattle.http_sessions.specs.declared.choosing.Choice.{Choice}
use Rattle.http_sessions.specs.declared.choosing.Choice.TheVariants.{MostCommitted, LeastCommitted}

-- ---- answers by what a replica answered; if it showed nothing, its lock guards another replica's state

-- how far the replica is
abbrev pub status_answer : ℕ → Option Progress → AnswerView
status_answer r (Some progress) = Status r progress.rounds progress.height
status_answer r None = Unanswered service.Stranger

-- what its application says of itself
abbrev pub info_answer : Option AppInfo → AnswerView
info_answer (Some info) = AbciInfo info.kind info.height info.hash
info_answer None = Unanswered service.Stranger

-- how many transactions wait in its pool
abbrev pub pool_answer : Option PoolSize → AnswerView
pool_answer (Some size) = UnconfirmedTxs size.transactions size.bytes
pool_answer None = Unanswered service.Stranger

-- its metrics
abbrev pub metrics_answer : Option ReplicaMetrics → AnswerView
metrics_answer (Some m) = Metrics (m ∷ [])
metrics_answer None = Unanswered service.Stranger

-- a replica took no event
abbrev pub fault_answer : ApplyFault → AnswerView
fault_answer apply.HistoryFull = Unanswered service.HistoryFull
fault_answer apply.NoMemory = Fault fault.NoMemory

-- a submit's
abbrev pub sync_answer : ℕ → List ℕ → Result (Result ℕ SubmitRefusal) ApplyFault → AnswerView
sync_answer r tx (Ok (Ok index)) = BroadcastSync tx (submission.Pooled (record { replica = r; index = index }))
sync_answer r tx (Ok (Err refusal)) = BroadcastSync tx (submission.Refused refusal)
sync_answer r tx (Err f) = fault_answer f

-- that of a submit which no pool took
abbrev pub unpooled_answer : List ℕ → Result SubmitRefusal ApplyFault → AnswerView
unpooled_answer tx (Ok refusal) = BroadcastCommit tx (commitment.Refused refusal)
unpooled_answer tx (Err f) = fault_answer f

-- that of a submit which the pool took, by what became of the transaction
abbrev pub delivery_answer : ℕ → List ℕ → ℕ → Option Delivery → AnswerView
delivery_answer r tx index (Some (delivery.Committed height code)) =
    BroadcastCommit tx (commitment.Committed (record { replica = r; index = index }) height code)
delivery_answer r tx index (Some delivery.TimedOut) = Unanswered service.TimedOut
delivery_answer r tx index (Some delivery.Stopping) = Unanswered service.Stopping
delivery_answer r tx index None = Unanswered service.Stranger

-- a query's
abbrev pub query_answer : List ℕ → Result QueryAnswer ApplyFault → AnswerView
query_answer key (Ok found) = AbciQuery key found.value found.height
query_answer key (Err f) = fault_answer f

-- that of a query which names a height: the application has to answer as of this height
abbrev pub query_answer_at : ℕ → List ℕ → Result QueryAnswer ApplyFault → AnswerView
query_answer_at h key (Ok found) = if found.height == h then AbciQuery key found.value found.height else Unanswered service.NotLastHeight
query_answer_at h key (Err f) = fault_answer f

-- a block's
abbrev pub block_answer : ℕ → Result (Option Value) ApplyFault → AnswerView
block_answer h (Ok (Some txs)) = Block h txs
block_answer h (Ok None) = Unanswered service.NotCommitted
block_answer h (Err f) = fault_answer f

-- ---- the exchanges with replica `r` by which a question is answered, and the answer

abbrev pub AnswersStatus : ℕ → List HttpExchange → AnswerView → Type 0
AnswersStatus r (Inquired (Progresses q progress) ∷ []) a = (q ≡ r) × (a ≡ status_answer r progress)
AnswersStatus r _ a = ⊥

abbrev pub AnswersInfo : ℕ → List HttpExchange → AnswerView → Type 0
AnswersInfo r (Inquired (Infos q info) ∷ []) a = (q ≡ r) × (a ≡ info_answer info)
AnswersInfo r _ a = ⊥

-- a query at no height: as of the last block
abbrev pub AnswersQueryNow : ℕ → List ℕ → List HttpExchange → AnswerView → Type 0
AnswersQueryNow r key (Asked (Queries q k outcome) ∷ []) a = (q ≡ r) × (k ≡ key) × (a ≡ query_answer key outcome)
AnswersQueryNow r key _ a = ⊥

-- a query at a height, which is made only if this is the committed height
abbrev pub AnswersQueryAt : ℕ → List ℕ → ℕ → List HttpExchange → AnswerView → Type 0
AnswersQueryAt r key h (Asked (Heights q c) ∷ []) a = (q ≡ r) × (c ≢ h) × (a ≡ Unanswered service.NotLastHeight)
AnswersQueryAt r key h (Asked (Heights q c) ∷ Asked (Queries s k outcome) ∷ []) a =
    (q ≡ r) × (c ≡ h) × (s ≡ r) × (k ≡ key) × (a ≡ query_answer_at h key outcome)
AnswersQueryAt r key h _ a = ⊥

-- the height 0 is the last, as if none were named
abbrev pub AnswersQueryIf : ℕ → List ℕ → Option ℕ → List HttpExchange → AnswerView → Type 0
AnswersQueryIf r key None exchanges a = AnswersQueryNow r key exchanges a
AnswersQueryIf r key (Some zero) exchanges a = AnswersQueryNow r key exchanges a
AnswersQueryIf r key (Some (suc n)) exchanges a = AnswersQueryAt r key (suc n) exchanges a

-- the block at a height
abbrev pub AnswersBlockAt : ℕ → ℕ → List HttpExchange → AnswerView → Type 0
AnswersBlockAt r h (Asked (Blocks q k outcome) ∷ []) a = (q ≡ r) × (k ≡ h) × (a ≡ block_answer h outcome)
AnswersBlockAt r h _ a = ⊥

-- the block at the committed height
abbrev pub AnswersLastBlock : ℕ → List HttpExchange → AnswerView → Type 0
AnswersLastBlock r (Asked (Heights q h) ∷ Asked (Blocks s k outcome) ∷ []) a = (q ≡ r) × (s ≡ r) × (k ≡ h) × (a ≡ block_answer h outcome)
AnswersLastBlock r _ a = ⊥

-- if no height is named, the block at the committed height
abbrev pub AnswersBlockQuestion : ℕ → Option ℕ → List HttpExchange → AnswerView → Type 0
AnswersBlockQuestion r (Some h) exchanges a = AnswersBlockAt r h exchanges a
AnswersBlockQuestion r None exchanges a = AnswersLastBlock r exchanges a

abbrev pub AnswersPool : ℕ → List HttpExchange → AnswerView → Type 0
AnswersPool r (Inquired (Pools q size) ∷ []) a = (q ≡ r) × (a ≡ pool_answer size)
AnswersPool r _ a = ⊥

-- only a transaction that the pool took is submitted to the other replicas, too
abbrev pub AnswersSync : ℕ → List ℕ → List HttpExchange → AnswerView → Type 0
AnswersSync r tx (Asked (Submits q t (Ok (Err refusal))) ∷ []) a = (q ≡ r) × (t ≡ tx) × (a ≡ sync_answer r tx (Ok (Err refusal)))
AnswersSync r tx (Asked (Submits q t (Err f)) ∷ []) a = (q ≡ r) × (t ≡ tx) × (a ≡ sync_answer r tx (Err f))
AnswersSync r tx (Asked (Submits q t (Ok (Ok index))) ∷ Inquired (Spreads s u) ∷ []) a =
    (q ≡ r) × (t ≡ tx) × (s ≡ r) × (u ≡ tx) × (a ≡ sync_answer r tx (Ok (Ok index)))
AnswersSync r tx _ a = ⊥

-- only then is it waited for
abbrev pub AnswersCommit : ℕ → List ℕ → List HttpExchange → AnswerView → Type 0
AnswersCommit r tx (Asked (Submits q t (Ok (Err refusal))) ∷ []) a = (q ≡ r) × (t ≡ tx) × (a ≡ unpooled_answer tx (Ok refusal))
AnswersCommit r tx (Asked (Submits q t (Err f)) ∷ []) a = (q ≡ r) × (t ≡ tx) × (a ≡ unpooled_answer tx (Err f))
AnswersCommit r tx (Asked (Submits q t (Ok (Ok index))) ∷ Inquired (Spreads p v) ∷ Inquired (Waits s u i delivery) ∷ []) a =
    (q ≡ r) × (t ≡ tx) × (p ≡ r) × (v ≡ tx) × (s ≡ r) × (u ≡ tx) × (i ≡ index) × (a ≡ delivery_answer r tx index delivery)
AnswersCommit r tx _ a = ⊥

abbrev pub AnswersMetrics : ℕ → List HttpExchange → AnswerView → Type 0
AnswersMetrics r (Inquired (Shows q metrics) ∷ []) a = (q ≡ r) × IfSome metrics (λ m. m.replica ≡ r) × (a ≡ metrics_answer metrics)
AnswersMetrics r _ a = ⊥

-- the exchanges by which replicas showed these metrics
abbrev pub exchanges_of_metrics : List ReplicaMetrics → List HttpExchange
exchanges_of_metrics all = map (λ m. Inquired (Shows m.replica (Some m))) all

-- this number of replicas, from 0 on, showed their metrics, which are the answer
pub record ShowsAll (count : ℕ) (exchanges : List HttpExchange) (a : AnswerView) : Type 0 where
  pub all : List ReplicaMetrics
  pub each : map (λ m. m.replica) all ≡ range_with_len 0 count
  pub asked : exchanges ≡ exchanges_of_metrics all
  pub answer : a ≡ Metrics all

-- of this number of replicas, those before `stranger` showed their metrics, and `stranger` didn't: no further replica was asked
pub record MeetsStranger (count : ℕ) (exchanges : List HttpExchange) (a : AnswerView) : Type 0 where
  pub stranger : ℕ
  pub below : stranger < count
  pub before : List ReplicaMetrics
  pub each : map (λ m. m.replica) before ≡ range_with_len 0 stranger
  pub asked : exchanges ≡ exchanges_of_metrics before ++ Inquired (Shows stranger None) ∷ []
  pub answer : a ≡ Unanswered service.Stranger

-- the metrics of this number of replicas, if all showed theirs
abbrev pub AnswersAllMetrics : ℕ → List HttpExchange → AnswerView → Type 0
AnswersAllMetrics count exchanges a = ShowsAll count exchanges a ⊎ MeetsStranger count exchanges a

-- ---- a whole request

-- nothing is asked
abbrev pub AsksNone : AnswerView → List HttpExchange → AnswerView → Type 0
AsksNone answer exchanges a = (exchanges ≡ []) × (a ≡ answer)

-- a question to replica `r`, which exists
abbrev pub AnswersAt : ℕ → QuestionView → List HttpExchange → AnswerView → Type 0
AnswersAt r question.Page exchanges a = AsksNone Page exchanges a
AnswersAt r question.Health exchanges a = AsksNone Health exchanges a
AnswersAt r question.Status exchanges a = AnswersStatus r exchanges a
AnswersAt r question.AbciInfo exchanges a = AnswersInfo r exchanges a
AnswersAt r (question.AbciQuery key height) exchanges a = AnswersQueryIf r key height exchanges a
AnswersAt r (question.Block height) exchanges a = AnswersBlockQuestion r height exchanges a
AnswersAt r question.UnconfirmedTxs exchanges a = AnswersPool r exchanges a
AnswersAt r (question.BroadcastSync tx) exchanges a = AnswersSync r tx exchanges a
AnswersAt r (question.BroadcastCommit tx) exchanges a = AnswersCommit r tx exchanges a
AnswersAt r question.Metrics exchanges a = AnswersMetrics r exchanges a

-- a question to replica `r` of `count`; if there is none, nothing is asked
pub record AnswersIf (count r : ℕ) (q : QuestionView) (exchanges : List HttpExchange) (a : AnswerView) : Type 0 where
  pub known : r < count → AnswersAt r q exchanges a
  pub unknown : count ≤ r → AsksNone (Unanswered service.NoReplica) exchanges a

-- the most replicas that numbers of one byte can name
abbrev pub most_replicas : ℕ
most_replicas = 256

-- each of `count` replicas was asked for its height, and then the question was put to the first of those that have committed most, or least
pub record AsksChosen (of : Choice) (count : ℕ) (q : QuestionView) (exchanges : List HttpExchange) (a : AnswerView) : Type 0 where
  pub pairs : List (ℕ × ℕ)
  pub replica : ℕ
  pub height : ℕ
  pub chosen : IsChosen of count pairs replica height
  pub rest : List HttpExchange
  pub asked : exchanges ≡ exchanges_of_heights pairs ++ rest
  pub answers : AnswersAt replica q rest a

-- a question to the first of those of `count` replicas that have committed most, or least; if there are no replicas, nothing is asked
pub record AnswersChosen (of : Choice) (count : ℕ) (q : QuestionView) (exchanges : List HttpExchange) (a : AnswerView) : Type 0 where
  pub some : 0 < count → AsksChosen of (min count most_replicas) q exchanges a
  pub none : count ≡ 0 → AsksNone (Unanswered service.NoReplica) exchanges a

-- A question to the replica that it names. If it names none: about what is committed, to the first of those that have committed most; a
-- transaction, to the first of those that have committed least; about metrics, to all; else to replica 0.
abbrev pub AnswersQuestion : ℕ → Option ℕ → QuestionView → List HttpExchange → AnswerView → Type 0
AnswersQuestion count None question.Status exchanges a = AnswersChosen MostCommitted count question.Status exchanges a
AnswersQuestion count None question.AbciInfo exchanges a = AnswersChosen MostCommitted count question.AbciInfo exchanges a
AnswersQuestion count None (question.AbciQuery key height) exchanges a = AnswersChosen MostCommitted count (question.AbciQuery key height) exchanges a
AnswersQuestion count None (question.Block height) exchanges a = AnswersChosen MostCommitted count (question.Block height) exchanges a
AnswersQuestion count None (question.BroadcastSync tx) exchanges a = AnswersChosen LeastCommitted count (question.BroadcastSync tx) exchanges a
AnswersQuestion count None (question.BroadcastCommit tx) exchanges a = AnswersChosen LeastCommitted count (question.BroadcastCommit tx) exchanges a
AnswersQuestion count None question.Metrics exchanges a = AnswersAllMetrics (min count most_replicas) exchanges a
AnswersQuestion count named q exchanges a = AnswersIf count (unwrap_or named 0) q exchanges a

-- what was asked of `count` replicas is answered by these exchanges and this answer; a fault asks nothing
abbrev pub AnswersRequest : ℕ → Result Request RequestFault → List HttpExchange → AnswerView → Type 0
AnswersRequest count (Ok request) exchanges a = AnswersQuestion count request.replica (question_view request.question) exchanges a
AnswersRequest count (Err f) exchanges a = AsksNone (Fault f) exchanges a

-- ---- the reply, or that memory ran out

-- exchanges were made, and the reply is that of the answer that they give
pub record RepliesByExchanges {T : Type 0} (makes : T → HttpExchange → T → Type 0) (before after : T)
    (Gives : List HttpExchange → AnswerView → Type 0) (reply : List ℕ) : Type 0 where
  pub exchanges : List HttpExchange
  pub answer : AnswerView
  pub made : FoldsTo makes before exchanges after
  pub gives : Gives exchanges answer
  pub bytes : reply ≡ http_reply_bytes answer

-- memory ran out: before anything was asked, or after all was
pub record Loses {T : Type 0} (makes : T → HttpExchange → T → Type 0) (before after : T)
    (Gives : List HttpExchange → AnswerView → Type 0) : Type 0 where
  pub exchanges : List HttpExchange
  pub made : FoldsTo makes before exchanges after
  pub whole : (exchanges ≡ []) ⊎ ((answer : AnswerView) × Gives exchanges answer)

-- memory ran out for the reply, after all was asked
pub record LosesReply {T : Type 0} (makes : T → HttpExchange → T → Type 0) (before after : T)
    (Gives : List HttpExchange → AnswerView → Type 0) : Type 0 where
  pub exchanges : List HttpExchange
  pub answer : AnswerView
  pub made : FoldsTo makes before exchanges after
  pub gives : Gives exchanges answer

-- all was asked that gives an answer; the result is the reply to that answer, or that memory ran out for it
abbrev pub AsksAll : {T E : Type 0} → Result (Vec ℕ Global) E → (T → HttpExchange → T → Type 0) → T → T
    → (List HttpExchange → AnswerView → Type 0) → Type 0
AsksAll result makes before after Gives =
    MatchResult result (λ reply. RepliesByExchanges makes before after Gives reply.items) (λ _. LosesReply makes before after Gives)

-- the reply to the answer that exchanges give, or that memory ran out
abbrev pub RepliesOrLoses : {T E : Type 0} → Result (Vec ℕ Global) E → (T → HttpExchange → T → Type 0) → T → T
    → (List HttpExchange → AnswerView → Type 0) → Type 0
RepliesOrLoses result makes before after Gives =
    MatchResult result (λ reply. RepliesByExchanges makes before after Gives reply.items) (λ _. Loses makes before after Gives)
