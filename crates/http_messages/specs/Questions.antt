-- Questions and requests, with bytes as lists.
use Rattle.std.specs.Prelude.{ℕ, List, Option}
use Rattle.http_messages.specs.declared.request.Question.{Question}
use Rattle.http_messages.specs.declared.request.Question.TheVariants as question
use Rattle.http_messages.specs.declared.request.Request.{Request}

-- a question
pub data QuestionView : Type 0 where
  Page Health Status AbciInfo UnconfirmedTxs Metrics : QuestionView
  AbciQuery : (key : List ℕ) (height : Option ℕ) → QuestionView
  Block : (height : Option ℕ) → QuestionView
  BroadcastSync : (tx : List ℕ) → QuestionView
  BroadcastCommit : (tx : List ℕ) → QuestionView

-- a question, and the replica that the request names
pub record RequestView : Type 0 where
  pub question : QuestionView
  pub replica : Option ℕ

-- the question as the definitions name it
abbrev pub question_view : Question → QuestionView
question_view question.Page = Page
question_view question.Health = Health
question_view question.Status = Status
question_view question.AbciInfo = AbciInfo
question_view (question.AbciQuery key height) = AbciQuery key.items height
question_view (question.Block height) = Block height
question_view question.UnconfirmedTxs = UnconfirmedTxs
question_view (question.BroadcastSync tx) = BroadcastSync tx.items
question_view (question.BroadcastCommit tx) = BroadcastCommit tx.items
question_view question.Metrics = Metrics

-- the request as the definitions name it
abbrev pub request_view : Request → RequestView
request_view r = record { question = question_view r.question; replica = r.replica }
