-- Worked examples: the bytes of replies, by the definitions alone.
use Rattle.std.proofs.Common.{◌≡◌, ◌++◌, codes, map, refl}
use Rattle.std.specs.Prelude.{⊤}
use Rattle.std.specs.Fmt.{digits}
use Rattle.std.specs.List.{range_with_len}
use Rattle.ledger_model.specs.Causes.{cause_number}
use Rattle.ledger_model.specs.declared.reply.Ignored.TheVariants as cause
use Rattle.http_messages.specs.declared.fault.RequestFault.TheVariants as fault
use Rattle.http_messages.specs.Answers as answer
use Rattle.http_messages.specs.Errors.{reason_text, error_text}
use Rattle.http_messages.specs.Metrics.{all_causes, cause_name}
use Rattle.http_messages.specs.Results.{unconfirmed_result}
use Rattle.http_messages.specs.Replies.{status_of, content_type, allow_text, fields_text, head_text, result_text, body_text, http_reply_bytes}

-- what computes the definitions on a literal
unfoldable replies_on_literals : ⊤
unfolding
    http_reply_bytes body_text head_text fields_text status_of content_type allow_text reason_text error_text result_text unconfirmed_result
    digits
replies_on_literals = tt

reply-health : http_reply_bytes answer.Health
    ≡ codes "HTTP/1.1 200 OK\r\n" ++ codes "Content-Type: application/json\r\n" ++ codes "Content-Length: 37\r\n"
    ++ codes "Connection: close\r\n" ++ codes "\r\n" ++ codes "{\"jsonrpc\":\"2.0\",\"id\":-1,\"result\":{}}"
unfolding replies_on_literals
reply-health = refl

reply-unconfirmed : http_reply_bytes (answer.UnconfirmedTxs 31 19974)
    ≡ codes "HTTP/1.1 200 OK\r\n" ++ codes "Content-Type: application/json\r\n" ++ codes "Content-Length: 95\r\n"
    ++ codes "Connection: close\r\n" ++ codes "\r\n"
    ++ codes "{\"jsonrpc\":\"2.0\",\"id\":-1,\"result\":{\"n_txs\":\"31\",\"total\":\"31\",\"total_bytes\":\"19974\",\"txs\":null}}"
unfolding replies_on_literals
reply-unconfirmed = refl

reply-method : http_reply_bytes (answer.Fault fault.Method)
    ≡ codes "HTTP/1.1 405 Method Not Allowed\r\n" ++ codes "Content-Type: application/json\r\n"
    ++ codes "Content-Length: 112\r\n" ++ codes "Allow: GET\r\n" ++ codes "Connection: close\r\n" ++ codes "\r\n"
    ++ codes "{\"jsonrpc\":\"2.0\",\"id\":-1,\"error\":{\"code\":-32600,\"message\":\"Invalid Request\","
    ++ codes "\"data\":\"only GET is answered here\"}}"
unfolding replies_on_literals
reply-method = refl

-- the causes are those of the numbers from 1 to 11, in this order
causes-all : map cause_number all_causes ≡ range_with_len 1 11
causes-all = refl

name-repeated : cause_name cause.Repeated ≡ codes "Repeated"
name-repeated = refl

name-not_mine : cause_name cause.NotMine ≡ codes "NotMine"
name-not_mine = refl
