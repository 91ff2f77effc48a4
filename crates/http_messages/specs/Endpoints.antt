-- The paths that are answered.
use Rattle.std.specs.Prelude.{ℕ, List, [], ◌∷◌, codes, Option, Some, None, if◌then◌else◌}
use Rattle.std.specs.Str.{bytes_eq}
use Rattle.http_messages.specs.declared.endpoint.Endpoint.{Endpoint}
use Rattle.http_messages.specs.declared.endpoint.Endpoint.TheVariants as endpoint

-- the path of an endpoint
abbrev pub path_text : Endpoint → List ℕ
path_text endpoint.Page = codes "/"
path_text endpoint.Health = codes "/health"
path_text endpoint.Status = codes "/status"
path_text endpoint.AbciInfo = codes "/abci_info"
path_text endpoint.AbciQuery = codes "/abci_query"
path_text endpoint.Block = codes "/block"
path_text endpoint.UnconfirmedTxs = codes "/num_unconfirmed_txs"
path_text endpoint.BroadcastSync = codes "/broadcast_tx_sync"
path_text endpoint.BroadcastCommit = codes "/broadcast_tx_commit"
path_text endpoint.Metrics = codes "/metrics"

-- the first of these endpoints that has the path
abbrev pub endpoint_among : List Endpoint → List ℕ → Option Endpoint
endpoint_among [] path = None
endpoint_among (e ∷ es) path = if bytes_eq path (path_text e) then Some e else endpoint_among es path

abbrev pub all_endpoints : List Endpoint
all_endpoints =
    endpoint.Page ∷ endpoint.Health ∷ endpoint.Status ∷ endpoint.AbciInfo ∷ endpoint.AbciQuery ∷ endpoint.Block
    ∷ endpoint.UnconfirmedTxs ∷ endpoint.BroadcastSync ∷ endpoint.BroadcastCommit ∷ endpoint.Metrics ∷ []

-- the endpoint that has the path
unfoldable pub endpoint_of : List ℕ → Option Endpoint
endpoint_of path = endpoint_among all_endpoints path
