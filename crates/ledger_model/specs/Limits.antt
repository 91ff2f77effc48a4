-- The limits of what is encoded, stored and counted. Each is defined only here.
use Rattle.std.specs.Prelude.{ℕ}

-- the most bytes of a transaction
abbrev pub max_tx_len : ℕ
max_tx_len = 64

-- the most bytes of a query's key
abbrev pub max_key_len : ℕ
max_key_len = 64

-- the most transactions that wait for a block
abbrev pub max_pool_len : ℕ
max_pool_len = 1024

-- the number of heights, which count from 1
abbrev pub max_height : ℕ
max_height = 4096

-- how far above the committed height a replica may open a height
abbrev pub max_ahead : ℕ
max_ahead = 4

-- the last round
abbrev pub last_round : ℕ
last_round = 4000000000

-- the most entries of a history
abbrev pub max_history_len : ℕ
max_history_len = 65536

-- the most bytes of a signature
abbrev pub max_signature_len : ℕ
max_signature_len = 2508
