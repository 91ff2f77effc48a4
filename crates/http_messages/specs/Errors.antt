-- Errors of JSON-RPC 2.0 (section 5.1), and the statuses of HTTP that they come with.
use Rattle.std.specs.Prelude.{ℕ, ◌==◌, List, [], ◌∷◌, codes, if◌then◌else◌}
use Rattle.ledger_model.specs.declared.reply.SubmitRefusal.{SubmitRefusal}
use Rattle.ledger_model.specs.declared.reply.SubmitRefusal.TheVariants as refusal
use Rattle.http_messages.specs.declared.fault.RequestFault.{RequestFault}
use Rattle.http_messages.specs.declared.fault.RequestFault.TheVariants as request
use Rattle.http_messages.specs.declared.answer.ServiceFault.{ServiceFault}
use Rattle.http_messages.specs.declared.answer.ServiceFault.TheVariants as service
use Rattle.http_messages.specs.declared.errors.ErrorKind.{ErrorKind}
use Rattle.http_messages.specs.declared.errors.ErrorKind.TheVariants as kind
use Rattle.http_messages.specs.Texts.{joined}

-- the reason phrase of a status (RFC 9110, section 15; RFC 6585, section 5)
unfoldable pub reason_text : ℕ → List ℕ
reason_text n =
    if n == 200 then codes "OK"
    else if n == 400 then codes "Bad Request"
    else if n == 404 then codes "Not Found"
    else if n == 405 then codes "Method Not Allowed"
    else if n == 431 then codes "Request Header Fields Too Large"
    else if n == 503 then codes "Service Unavailable"
    else codes "Internal Server Error"

-- the code and the message of a kind of error
abbrev pub kind_text : ErrorKind → List ℕ
kind_text kind.InvalidRequest = codes "\"code\":-32600,\"message\":\"Invalid Request\""
kind_text kind.InvalidParams = codes "\"code\":-32602,\"message\":\"Invalid params\""
kind_text kind.MethodNotFound = codes "\"code\":-32601,\"message\":\"Method not found\""
kind_text kind.Internal = codes "\"code\":-32603,\"message\":\"Internal error\""

-- the body of a reply with an error of this kind, which says this sentence
unfoldable pub error_text : List ℕ → List ℕ → List ℕ
error_text kind sentence =
    joined (codes "{\"jsonrpc\":\"2.0\",\"id\":-1,\"error\":{" ∷ kind ∷ codes ",\"data\":\"" ∷ sentence ∷ codes "\"}}" ∷ [])

-- the kind of error that a fault of a request is
abbrev pub fault_kind : RequestFault → ErrorKind
fault_kind request.Malformed = kind.InvalidRequest
fault_kind request.Incomplete = kind.InvalidRequest
fault_kind (request.Parameter p) = kind.InvalidParams
fault_kind request.NotFound = kind.MethodNotFound
fault_kind request.Method = kind.InvalidRequest
fault_kind request.TooLong = kind.InvalidRequest
fault_kind request.NoMemory = kind.Internal

-- ---- why a question has no answer

abbrev pub service_status : ServiceFault → ℕ
service_status service.NoReplica = 400
service_status service.NotCommitted = 500
service_status service.NotLastHeight = 400
service_status service.HistoryFull = 503
service_status service.TimedOut = 500
service_status service.Stopping = 503
service_status service.Stranger = 500

abbrev pub service_kind : ServiceFault → ErrorKind
service_kind service.NoReplica = kind.InvalidParams
service_kind service.NotCommitted = kind.Internal
service_kind service.NotLastHeight = kind.InvalidParams
service_kind service.HistoryFull = kind.Internal
service_kind service.TimedOut = kind.Internal
service_kind service.Stopping = kind.Internal
service_kind service.Stranger = kind.Internal

abbrev pub service_text : ServiceFault → List ℕ
service_text service.NoReplica = codes "the cluster has no such replica"
service_text service.NotCommitted = codes "the replica has not committed this height"
service_text service.NotLastHeight = codes "the application answers as of its last block alone"
service_text service.HistoryFull = codes "the replica's history has no entries left for clients"
service_text service.TimedOut = codes "timed out waiting for tx to be included in a block"
service_text service.Stopping = codes "the cluster was asked to stop"
service_text service.Stranger = codes "the state of this replica is not its own"

-- ---- why the pool refused a transaction; if the application refused it, that is an answer and no error

abbrev pub refusal_status : SubmitRefusal → ℕ
refusal_status refusal.Empty = 400
refusal_status refusal.TooLong = 400
refusal_status refusal.Duplicate = 500
refusal_status refusal.Full = 500
refusal_status (refusal.Rejected code) = 200

abbrev pub refusal_kind : SubmitRefusal → ErrorKind
refusal_kind refusal.Empty = kind.InvalidParams
refusal_kind refusal.TooLong = kind.InvalidParams
refusal_kind refusal.Duplicate = kind.Internal
refusal_kind refusal.Full = kind.Internal
refusal_kind (refusal.Rejected code) = kind.Internal

abbrev pub submit_refusal_sentence : SubmitRefusal → List ℕ
submit_refusal_sentence refusal.Empty = codes "the transaction has no byte"
submit_refusal_sentence refusal.TooLong = codes "the transaction has more than 64 bytes"
submit_refusal_sentence refusal.Duplicate = codes "tx already exists in cache"
submit_refusal_sentence refusal.Full = codes "mempool is full"
submit_refusal_sentence (refusal.Rejected code) = codes "the application refuses the transaction"
