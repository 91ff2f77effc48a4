-- The bytes of a reply.
use Rattle.std.specs.Prelude.{ℕ, List, [], ◌∷◌, ◌++◌, length, codes, decimal}
use Rattle.ledger_model.specs.declared.reply.SubmitRefusal.{SubmitRefusal}
use Rattle.ledger_model.specs.declared.reply.SubmitRefusal.TheVariants as refusal
use Rattle.http_messages.specs.Faults.{request_fault_text}
use Rattle.http_messages.specs.Faults as requests
use Rattle.http_messages.specs.declared.fault.RequestFault.TheVariants as fault
use Rattle.http_messages.specs.declared.answer.Submission.{Submission}
use Rattle.http_messages.specs.declared.answer.Submission.TheVariants as submission
use Rattle.http_messages.specs.declared.answer.Commitment.{Commitment}
use Rattle.http_messages.specs.declared.answer.Commitment.TheVariants as commitment
use Rattle.http_messages.specs.declared.page.TheConstants.{PAGE}
use Rattle.http_messages.specs.Answers.{AnswerView, Page, Health, Status, AbciInfo, AbciQuery, Block, UnconfirmedTxs, BroadcastSync}
use Rattle.http_messages.specs.Answers.{BroadcastCommit, Metrics, Fault, Unanswered}
use Rattle.http_messages.specs.Texts.{joined}
use Rattle.http_messages.specs.Results.{status_result, info_result, query_result, block_result, unconfirmed_result, sync_result}
use Rattle.http_messages.specs.Results.{rejected_sync, commit_result, rejected_commit}
use Rattle.http_messages.specs.Errors.{reason_text, kind_text, error_text, fault_kind, service_status, service_kind, service_text}
use Rattle.http_messages.specs.Errors.{refusal_status, refusal_kind, submit_refusal_sentence}
use Rattle.http_messages.specs.Metrics.{metrics_text}

-- the status of the reply to a transaction for the pool
abbrev pub submission_status : Submission → ℕ
submission_status (submission.Pooled receipt) = 200
submission_status (submission.Refused r) = refusal_status r

-- the status of the reply to a transaction that was to be in a block
abbrev pub commitment_status : Commitment → ℕ
commitment_status (commitment.Committed receipt height code) = 200
commitment_status (commitment.Refused r) = refusal_status r

-- the status of a reply
unfoldable pub status_of : AnswerView → ℕ
status_of Page = 200
status_of Health = 200
status_of (Status replica round height) = 200
status_of (AbciInfo kind height hash) = 200
status_of (AbciQuery key value height) = 200
status_of (Block height batch) = 200
status_of (UnconfirmedTxs count bytes) = 200
status_of (BroadcastSync tx s) = submission_status s
status_of (BroadcastCommit tx c) = commitment_status c
status_of (Metrics replicas) = 200
status_of (Fault f) = requests.status_of f
status_of (Unanswered f) = service_status f

-- the type of a body: a page, Prometheus' text, or JSON
unfoldable pub content_type : AnswerView → List ℕ
content_type Page = codes "text/html; charset=utf-8"
content_type (Metrics replicas) = codes "text/plain; version=0.0.4; charset=utf-8"
content_type _ = codes "application/json"

-- the field line that says which methods are answered, if the method was not (RFC 9110, section 15.5.6)
unfoldable pub allow_text : AnswerView → List ℕ
allow_text (Fault fault.Method) = codes "Allow: GET\r\n"
allow_text _ = []

-- the head of a reply with this status, this type and length of the body, and this field line more (RFC 9112, section 2.1)
unfoldable pub fields_text : ℕ → List ℕ → ℕ → List ℕ → List ℕ
fields_text status kind len allow =
    joined (codes "HTTP/1.1 " ∷ decimal status ∷ codes " " ∷ reason_text status ∷ codes "\r\nContent-Type: " ∷ kind
    ∷ codes "\r\nContent-Length: " ∷ decimal len ∷ codes "\r\n" ∷ allow ∷ codes "Connection: close\r\n\r\n" ∷ [])

-- the head of the reply with a body of this length
unfoldable pub head_text : AnswerView → ℕ → List ℕ
head_text a len = fields_text (status_of a) (content_type a) len (allow_text a)

-- the body of a reply with a result
unfoldable pub result_text : List ℕ → List ℕ
result_text result_object = joined (codes "{\"jsonrpc\":\"2.0\",\"id\":-1,\"result\":" ∷ result_object ∷ codes "}" ∷ [])

-- the body of a reply that says why the pool refused a transaction
abbrev pub refusal_body : SubmitRefusal → List ℕ
refusal_body r = error_text (kind_text (refusal_kind r)) (submit_refusal_sentence r)

-- the body of the reply to a transaction for the pool
unfoldable pub sync_body : List ℕ → Submission → List ℕ
sync_body tx (submission.Pooled receipt) = result_text (sync_result tx receipt.replica receipt.index)
sync_body tx (submission.Refused refusal.Empty) = refusal_body refusal.Empty
sync_body tx (submission.Refused refusal.TooLong) = refusal_body refusal.TooLong
sync_body tx (submission.Refused refusal.Duplicate) = refusal_body refusal.Duplicate
sync_body tx (submission.Refused refusal.Full) = refusal_body refusal.Full
sync_body tx (submission.Refused (refusal.Rejected code)) = result_text (rejected_sync tx code)

-- the body of the reply to a transaction that was to be in a block
unfoldable pub commit_body : List ℕ → Commitment → List ℕ
commit_body tx (commitment.Committed receipt height code) = result_text (commit_result tx receipt.replica receipt.index height code)
commit_body tx (commitment.Refused refusal.Empty) = refusal_body refusal.Empty
commit_body tx (commitment.Refused refusal.TooLong) = refusal_body refusal.TooLong
commit_body tx (commitment.Refused refusal.Duplicate) = refusal_body refusal.Duplicate
commit_body tx (commitment.Refused refusal.Full) = refusal_body refusal.Full
commit_body tx (commitment.Refused (refusal.Rejected code)) = result_text (rejected_commit tx code)

-- the body of a reply
unfoldable pub body_text : AnswerView → List ℕ
body_text Page = PAGE.now
body_text Health = result_text (codes "{}")
body_text (Status replica round height) = result_text (status_result replica round height)
body_text (AbciInfo kind height hash) = result_text (info_result kind height hash)
body_text (AbciQuery key value height) = result_text (query_result key value height)
body_text (Block height batch) = result_text (block_result height batch)
body_text (UnconfirmedTxs count bytes) = result_text (unconfirmed_result count bytes)
body_text (BroadcastSync tx s) = sync_body tx s
body_text (BroadcastCommit tx c) = commit_body tx c
body_text (Metrics replicas) = metrics_text replicas
body_text (Fault f) = error_text (kind_text (fault_kind f)) (request_fault_text f)
body_text (Unanswered f) = error_text (kind_text (service_kind f)) (service_text f)

-- the bytes of a reply: its head, which has the length of the body, and the body
unfoldable pub http_reply_bytes : AnswerView → List ℕ
http_reply_bytes a = head_text a (length (body_text a)) ++ body_text a
