-- What a method and a target ask, and how a head is answered.
use Rattle.std.specs.Prelude.{◌&&◌, Bool, IsTrue, is_some, ◌≡◌, ◌⊎◌, ℕ, ◌<◌, ◌≤◌, List, length, codes, Option, Some, None, Result, Ok, Err}
use Rattle.std.specs.Prelude.{if◌then◌else◌}
use Rattle.std.specs.Str.{bytes_eq}
use Rattle.form_urlencoded.specs.Form.{split_once}
use Rattle.httparse.specs.Grammar.{RequestHead, ReadsRequest, HasNoRequest, MayBecomeRequest, NeverHasRequest}
use Rattle.httparse.specs.Spans.{RequestExceeds}
use Rattle.http_messages.specs.declared.endpoint.Endpoint.{Endpoint}
use Rattle.http_messages.specs.declared.endpoint.Endpoint.TheVariants as endpoint
use Rattle.http_messages.specs.declared.fault.Parameter.TheVariants.{Tx, Data, Height}
use Rattle.http_messages.specs.declared.fault.RequestFault.{RequestFault}
use Rattle.http_messages.specs.declared.fault.RequestFault.TheVariants as fault
use Rattle.http_messages.specs.declared.request.Request.{Request}
use Rattle.http_messages.specs.Limits.{max_head_len, max_fields}
use Rattle.http_messages.specs.Faults.{◌>>=◌}
use Rattle.http_messages.specs.Questions.{QuestionView, RequestView, Page, Health, Status, AbciInfo, AbciQuery, Block, UnconfirmedTxs}
use Rattle.http_messages.specs.Questions.{BroadcastSync, BroadcastCommit, Metrics, request_view}
use Rattle.http_messages.specs.Endpoints.{endpoint_of}
use Rattle.http_messages.specs.Parameters.{required_bytes, optional_number, replica_in, is_any_given}

-- the path of a target: what is before the first `?`
abbrev pub path_of : List ℕ → List ℕ
path_of target = (split_once 63 target).0

-- the query of a target: what is after the first `?`
abbrev pub query_of : List ℕ → List ℕ
query_of target = (split_once 63 target).1

-- the question that an endpoint is asked with a query
unfoldable pub question_in : Endpoint → List ℕ → Result QuestionView RequestFault
question_in endpoint.Page query = Ok Page
question_in endpoint.Health query = Ok Health
question_in endpoint.Status query = Ok Status
question_in endpoint.AbciInfo query = Ok AbciInfo
question_in endpoint.AbciQuery query = do
  key ← required_bytes Data query
  height ← optional_number Height query
  Ok (AbciQuery key height)
question_in endpoint.Block query = do
  height ← optional_number Height query
  Ok (Block height)
question_in endpoint.UnconfirmedTxs query = Ok UnconfirmedTxs
question_in endpoint.BroadcastSync query = do
  tx ← required_bytes Tx query
  Ok (BroadcastSync tx)
question_in endpoint.BroadcastCommit query = do
  tx ← required_bytes Tx query
  Ok (BroadcastCommit tx)
question_in endpoint.Metrics query = Ok Metrics

-- the question that an endpoint is asked with a query, and the replica that the query names
unfoldable pub request_in : Endpoint → List ℕ → Result RequestView RequestFault
request_in e query = do
  question ← question_in e query
  replica ← replica_in query
  Ok (record { question = question; replica = replica })

-- what a method asks of an endpoint, if there is one
abbrev pub asked_of : Option Endpoint → List ℕ → List ℕ → Result RequestView RequestFault
asked_of None method query = Err fault.NotFound
asked_of (Some e) method query = if bytes_eq method (codes "GET") then request_in e query else Err fault.Method

-- what a method and a target ask
unfoldable pub asked_by : List ℕ → List ℕ → Result RequestView RequestFault
asked_by method target = asked_of (endpoint_of (path_of target)) method (query_of target)

-- a GET of a path that is answered, with a parameter: whatever else is asked needs no memory
abbrev pub needs_memory : List ℕ → List ℕ → Bool
needs_memory method target = is_some (endpoint_of (path_of target)) && (bytes_eq method (codes "GET") && is_any_given (query_of target))

-- the bytes start with a request head that has at most max_fields field lines, and what it asks needs memory
pub record RunsOut (bytes : List ℕ) : Type 0 where
  pub head : RequestHead
  pub rest : List ℕ
  pub reads : ReadsRequest bytes head rest
  pub short : length bytes ≤ max_head_len
  pub few : length head.fields ≤ max_fields
  pub needs : IsTrue (needs_memory head.method head.target)

-- the bytes start with a request head that has at most max_fields field lines, and the head asks this
pub record Asks (bytes : List ℕ) (answer : Result RequestView RequestFault) : Type 0 where
  pub head : RequestHead
  pub rest : List ℕ
  pub reads : ReadsRequest bytes head rest
  pub short : length bytes ≤ max_head_len
  pub few : length head.fields ≤ max_fields
  pub asked : answer ≡ asked_by head.method head.target

-- the bytes are more than max_head_len, or more than max_fields field lines follow their request line
abbrev pub IsTooLong : List ℕ → Type 0
IsTooLong bytes = (max_head_len < length bytes) ⊎ RequestExceeds max_fields bytes

-- this is a right answer to a head
abbrev pub AnswersHead : List ℕ → Result Request RequestFault → Type 0
AnswersHead bytes (Ok request) = Asks bytes (Ok (request_view request))
AnswersHead bytes (Err fault.Malformed) = (length bytes ≤ max_head_len) × NeverHasRequest bytes
AnswersHead bytes (Err fault.Incomplete) = (length bytes ≤ max_head_len) × (HasNoRequest bytes × MayBecomeRequest bytes)
AnswersHead bytes (Err (fault.Parameter p)) = Asks bytes (Err (fault.Parameter p))
AnswersHead bytes (Err fault.NotFound) = Asks bytes (Err fault.NotFound)
AnswersHead bytes (Err fault.Method) = Asks bytes (Err fault.Method)
AnswersHead bytes (Err fault.TooLong) = IsTooLong bytes
AnswersHead bytes (Err fault.NoMemory) = RunsOut bytes
