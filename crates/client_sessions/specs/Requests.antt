-- How a parsed request corresponds to a request of the definitions.
use Rattle.ledger_model.specs.Sessions.{Request as Asked}
use Rattle.ledger_model.specs.Sessions as asked
use Rattle.client_sessions.specs.declared.request.Request.{Request}
use Rattle.client_sessions.specs.declared.request.Request.TheVariants as request

-- the request as the definitions name it
abbrev pub asked_for : Request → Asked
asked_for (request.Submit tx) = asked.Submit tx.now
asked_for (request.Query min_height key) = asked.Query min_height key.now
asked_for request.Height = asked.Height
asked_for (request.Block height) = asked.Block height
asked_for (request.Switch replica) = asked.Switch replica
asked_for request.Malformed = asked.Malformed
