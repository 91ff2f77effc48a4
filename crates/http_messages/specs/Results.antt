-- The results of answers, as JSON: the field names of CometBFT 0.34, and under `abft` what is ours.
use Rattle.std.specs.Prelude.{ℕ, List, [], ◌∷◌, ◌++◌, codes, decimal, Option, Some, None}
use Rattle.std.specs.List.{flat_map}
use Rattle.ledger_model.specs.Values.{Value}
use Rattle.ledger_model.specs.declared.config.AppKind.{AppKind}
use Rattle.ledger_model.specs.declared.config.AppKind.TheVariants.{Own, KvStore, Counter, Purse}
use Rattle.http_messages.specs.Texts.{joined, base64_text, hash_text, json_value}

-- how far a replica is
unfoldable pub status_result : ℕ → ℕ → ℕ → List ℕ
status_result replica round height =
    joined (codes "{\"node_info\":{\"network\":\"abft\",\"moniker\":\"replica " ∷ decimal replica
    ∷ codes "\"},\"sync_info\":{\"latest_block_height\":\"" ∷ decimal height
    ∷ codes "\",\"catching_up\":false},\"abft\":{\"replica\":" ∷ decimal replica ∷ codes ",\"round\":" ∷ decimal round ∷ codes "}}" ∷ [])

-- the name of a kind of application
abbrev pub kind_name : AppKind → List ℕ
kind_name Own = codes "own"
kind_name KvStore = codes "kvstore"
kind_name Counter = codes "counter"
kind_name Purse = codes "purse"

-- what an application says of itself
unfoldable pub info_result : AppKind → ℕ → List ℕ → List ℕ
info_result kind height hash =
    joined (codes "{\"response\":{\"data\":\"" ∷ kind_name kind ∷ codes "\",\"last_block_height\":\"" ∷ decimal height
    ∷ codes "\",\"last_block_app_hash\":\"" ∷ base64_text hash ∷ codes "\"}}" ∷ [])

-- whether there is a value, in words
abbrev pub log_text : Option (List ℕ) → List ℕ
log_text (Some value) = codes "exists"
log_text None = codes "does not exist"

-- what an application has under a key
unfoldable pub query_result : List ℕ → Option (List ℕ) → ℕ → List ℕ
query_result key value height =
    joined (codes "{\"response\":{\"code\":0,\"log\":\"" ∷ log_text value ∷ codes "\",\"info\":\"\",\"index\":\"0\",\"key\":\""
    ∷ base64_text key ∷ codes "\",\"value\":" ∷ json_value value ∷ codes ",\"proofOps\":null,\"height\":\"" ∷ decimal height
    ∷ codes "\",\"codespace\":\"\"}}" ∷ [])

-- a transaction in base64 and quotes
unfoldable pub json_tx : List ℕ → List ℕ
json_tx tx = joined (codes "\"" ∷ base64_text tx ∷ codes "\"" ∷ [])

-- transactions, separated by commas
abbrev pub txs_text : Value → List ℕ
txs_text [] = []
txs_text (t ∷ ts) = json_tx t ++ flat_map (λ t. codes "," ++ json_tx t) ts

-- the block at a height; no hash names it
unfoldable pub block_result : ℕ → Value → List ℕ
block_result height txs =
    joined (codes "{\"block_id\":{\"hash\":\"\",\"parts\":{\"total\":0,\"hash\":\"\"}},\"block\":{\"header\":{\"height\":\""
    ∷ decimal height ∷ codes "\"},\"data\":{\"txs\":[" ∷ txs_text txs ∷ codes "]}}}" ∷ [])

-- how many transactions wait for a block, and how many bytes they have together
unfoldable pub unconfirmed_result : ℕ → ℕ → List ℕ
unconfirmed_result count bytes =
    joined (codes "{\"n_txs\":\"" ∷ decimal count ∷ codes "\",\"total\":\"" ∷ decimal count ∷ codes "\",\"total_bytes\":\"" ∷ decimal bytes
    ∷ codes "\",\"txs\":null}" ∷ [])

-- where a transaction is kept
unfoldable pub receipt_text : ℕ → ℕ → List ℕ
receipt_text replica index = joined (codes "{\"replica\":" ∷ decimal replica ∷ codes ",\"index\":" ∷ decimal index ∷ codes "}" ∷ [])

-- the pool has a transaction
unfoldable pub sync_result : List ℕ → ℕ → ℕ → List ℕ
sync_result tx replica index =
    joined (codes "{\"code\":0,\"data\":\"\",\"log\":\"\",\"codespace\":\"\",\"hash\":\"" ∷ hash_text tx ∷ codes "\",\"abft\":"
    ∷ receipt_text replica index ∷ codes "}" ∷ [])

-- the application refused a transaction with this code
unfoldable pub rejected_sync : List ℕ → ℕ → List ℕ
rejected_sync tx code =
    joined (codes "{\"code\":" ∷ decimal code ∷ codes ",\"data\":\"\",\"log\":\"\",\"codespace\":\"\",\"hash\":\"" ∷ hash_text tx
    ∷ codes "\"}" ∷ [])

-- what the application returned for a transaction
unfoldable pub tx_result : ℕ → List ℕ
tx_result code =
    joined (codes "{\"code\":" ∷ decimal code
    ∷ codes ",\"data\":null,\"log\":\"\",\"info\":\"\",\"gas_wanted\":\"0\",\"gas_used\":\"0\",\"events\":[],\"codespace\":\"\"}" ∷ [])

-- the block at a height has a transaction, for which the application returned this code
unfoldable pub commit_result : List ℕ → ℕ → ℕ → ℕ → ℕ → List ℕ
commit_result tx replica index height code =
    joined (codes "{\"check_tx\":" ∷ tx_result 0 ∷ codes ",\"deliver_tx\":" ∷ tx_result code ∷ codes ",\"hash\":\"" ∷ hash_text tx
    ∷ codes "\",\"height\":\"" ∷ decimal height ∷ codes "\",\"abft\":" ∷ receipt_text replica index ∷ codes "}" ∷ [])

-- the application refused a transaction with this code, so no block gets it
unfoldable pub rejected_commit : List ℕ → ℕ → List ℕ
rejected_commit tx code =
    joined (codes "{\"check_tx\":" ∷ tx_result code ∷ codes ",\"deliver_tx\":" ∷ tx_result 0 ∷ codes ",\"hash\":\"" ∷ hash_text tx
    ∷ codes "\",\"height\":\"0\"}" ∷ [])
