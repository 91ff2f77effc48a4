-- Answers, with bytes as lists.
use Rattle.std.specs.Prelude.{ℕ, List, Option}
use Rattle.std.specs.Option.{option_copied}
use Rattle.ledger_model.specs.Values.{Value}
use Rattle.ledger_model.specs.declared.config.AppKind.{AppKind}
use Rattle.http_messages.specs.declared.fault.RequestFault.{RequestFault}
use Rattle.http_messages.specs.declared.answer.Answer.{Answer}
use Rattle.http_messages.specs.declared.answer.Answer.TheVariants as answer
use Rattle.http_messages.specs.declared.answer.Submission.{Submission}
use Rattle.http_messages.specs.declared.answer.Commitment.{Commitment}
use Rattle.http_messages.specs.declared.answer.ServiceFault.{ServiceFault}
use Rattle.http_messages.specs.declared.metrics.ReplicaMetrics.{ReplicaMetrics}

-- an answer
pub data AnswerView : Type 0 where
  Page Health : AnswerView
  Status : (replica round height : ℕ) → AnswerView
  AbciInfo : (kind : AppKind) (height : ℕ) (hash : List ℕ) → AnswerView
  AbciQuery : (key : List ℕ) (value : Option (List ℕ)) (height : ℕ) → AnswerView
  Block : (height : ℕ) (batch : Value) → AnswerView
  UnconfirmedTxs : (count bytes : ℕ) → AnswerView
  BroadcastSync : (tx : List ℕ) (submission : Submission) → AnswerView
  BroadcastCommit : (tx : List ℕ) (commitment : Commitment) → AnswerView
  Metrics : (replicas : List ReplicaMetrics) → AnswerView
  Fault : (fault : RequestFault) → AnswerView
  Unanswered : (fault : ServiceFault) → AnswerView

-- the answer as the definitions name it
abbrev pub answer_view : Answer → AnswerView
answer_view answer.Page = Page
answer_view answer.Health = Health
answer_view (answer.Status replica round height) = Status replica round height
answer_view (answer.AbciInfo kind height hash) = AbciInfo kind height hash.now
answer_view (answer.AbciQuery key value height) = AbciQuery key.now (option_copied value) height
answer_view (answer.Block height batch) = Block height batch.now
answer_view (answer.UnconfirmedTxs count bytes) = UnconfirmedTxs count bytes
answer_view (answer.BroadcastSync tx submission) = BroadcastSync tx.now submission
answer_view (answer.BroadcastCommit tx commitment) = BroadcastCommit tx.now commitment
answer_view (answer.Metrics replicas) = Metrics replicas.now
answer_view (answer.Fault fault) = Fault fault
answer_view (answer.Unanswered fault) = Unanswered fault
