-- What the three kinds of applications mean: a store, a counter and a purse.
use Rattle.std.specs.Prelude.{ℕ, ◌+◌, ◌-◌, ◌*◌, ◌^◌, ◌==◌, nat_lt, Bool, not, ◌||◌, ◌&&◌, List, [], ◌∷◌, ◌++◌, length, map, filter, drop}
use Rattle.std.specs.Prelude.{take, Option, Some, None, slice_index, sum_by, unwrap_or, if◌then◌else◌}
use Rattle.std.specs.List.{flat_map, range_with_len, list_any, list_all}
use Rattle.std.specs.Cmp.Lexicographic.{slice_cmp}
use Rattle.std.specs.Ordering.{nat_cmp, is_lt}
use Rattle.std.specs.Int.{w32, w64, to_be_bytes, from_be_bytes}
use Rattle.ledger_model.specs.declared.config.AppKind.{AppKind}
use Rattle.ledger_model.specs.declared.config.AppKind.TheVariants.{Own, KvStore, Counter, Purse}
use Rattle.ledger_model.specs.Values.{same_bytes}
use Rattle.ledger_model.specs.Meanings.{Meaning}

-- the code of the first test that is true, or 0
abbrev pub first_code : List (Bool × ℕ) → ℕ
first_code [] = 0
first_code (t ∷ ts) = if t.0 then t.1 else first_code ts

-- ---- a store of keys and values: a transaction sets the key before its first = to the value after it

-- the byte is =
abbrev pub is_equals_sign : ℕ → Bool
is_equals_sign b = b == 0x3d

-- the key that a transaction sets: the bytes before its first =, or all of them
abbrev pub key_of : List ℕ → List ℕ
key_of tx = before_equals tx
  where
    before_equals : List ℕ → List ℕ
    before_equals [] = []
    before_equals (b ∷ bs) = if is_equals_sign b then [] else b ∷ before_equals bs

-- the value that it sets: the bytes after its first =, or all of them
abbrev pub value_in : List ℕ → List ℕ
value_in tx = if list_any is_equals_sign tx then drop (length (key_of tx) + 1) tx else tx

-- the value that the last transaction with this key set
abbrev pub value_at : List (List ℕ) → List ℕ → Option (List ℕ)
value_at [] key = None
value_at (tx ∷ txs) key = or_earlier (value_at txs key) (if same_bytes (key_of tx) key then Some (value_in tx) else None)
  where
    or_earlier : Option (List ℕ) → Option (List ℕ) → Option (List ℕ)
    or_earlier (Some v) earlier = Some v
    or_earlier None earlier = earlier

-- the ascending list of keys with one more, each key once
abbrev pub with_key : List ℕ → List (List ℕ) → List (List ℕ)
with_key k [] = k ∷ []
with_key k (x ∷ xs) = if same_bytes k x then x ∷ xs else if is_lt (slice_cmp nat_cmp k x) then k ∷ x ∷ xs else x ∷ with_key k xs

-- the keys that the transactions set, each once, ascending
abbrev pub keys_of : List (List ℕ) → List (List ℕ)
keys_of [] = []
keys_of (tx ∷ txs) = with_key (key_of tx) (keys_of txs)

-- the pairs that the transactions set: each key with its value, by ascending keys
abbrev pub pairs_of : List (List ℕ) → List (List ℕ × List ℕ)
pairs_of done = map (λ k. (k, unwrap_or (value_at done k) [])) (keys_of done)

-- the encoding of pairs: 1, their number, and each key and each value with its length
unfoldable pub store_bytes : List (List ℕ × List ℕ) → List ℕ
store_bytes pairs = 1 ∷ to_be_bytes w64 (length pairs) ++ flat_map (λ p. (length p.0 ∷ p.0) ++ (length p.1 ∷ p.1)) pairs

-- a store accepts each transaction, and has a value under each key that was set
unfoldable pub store : Meaning
store = record { code = λ done tx. 0; check = λ done tx. 0; held = value_at; state = λ done. store_bytes (pairs_of done) }

-- ---- a counter: a transaction is the number of transactions that were accepted before it

-- the number that a counter's transaction encodes, big-endian
abbrev pub number_in : List ℕ → ℕ
number_in [] = 0
number_in (b ∷ bs) = b * 256 ^ length bs + number_in bs

-- the encoding of a count: 2 and the count
unfoldable pub counter_bytes : ℕ → List ℕ
counter_bytes n = 2 ∷ to_be_bytes w64 n

-- A counter accepts the number of accepted transactions, in at most eight bytes. CheckTx refuses only smaller numbers.
-- The count is under the key `count`.
unfoldable pub counter : Meaning
counter = record {
  code = λ done tx. first_code (
      (nat_lt 8 (length tx), 1)
      ∷ (not (number_in tx == length done) || (length done == 2 ^ 64 - 1), 2)
      ∷ []);
  check = λ done tx. first_code ((nat_lt 8 (length tx), 1) ∷ (nat_lt (number_in tx) (length done), 2) ∷ []);
  held = λ done key. if same_bytes key (0x63 ∷ 0x6f ∷ 0x75 ∷ 0x6e ∷ 0x74 ∷ []) then Some (to_be_bytes w64 (length done)) else None;
  state = λ done. counter_bytes (length done);
}

-- ---- a purse: a transfer is the account that sends, the account that receives, an amount and the sender's nonce

-- the account that sends
abbrev pub sender : List ℕ → ℕ
sender tx = slice_index tx 0

-- the account that a transfer pays
abbrev pub receiver : List ℕ → ℕ
receiver tx = slice_index tx 1

-- the amount that it moves: the four bytes after the two accounts
abbrev pub amount : List ℕ → ℕ
amount tx = from_be_bytes w32 (take 4 (drop 2 tx))

-- the nonce that it contains: the last four of its ten bytes
abbrev pub nonce_in : List ℕ → ℕ
nonce_in tx = from_be_bytes w32 (drop 6 tx)

-- the transfers that the account sent
abbrev pub sent_by : List (List ℕ) → ℕ → List (List ℕ)
sent_by txs account = filter (λ tx. sender tx == account) txs

-- the nonce of an account: the number of transfers that it sent
abbrev pub nonce_of : List (List ℕ) → ℕ → ℕ
nonce_of txs account = length (sent_by txs account)

-- the balance of an account: 1000 plus all amounts that it received, minus all that it sent
abbrev pub balance_of : List (List ℕ) → ℕ → ℕ
balance_of txs account = 1000 + sum_by amount (filter (λ tx. receiver tx == account) txs) - sum_by amount (sent_by txs account)

-- the balance and the nonce of an account
abbrev pub account_of : List (List ℕ) → ℕ → ℕ × ℕ
account_of txs account = (balance_of txs account, nonce_of txs account)

-- the balances and nonces of the 256 accounts
abbrev pub accounts_of : List (List ℕ) → List (ℕ × ℕ)
accounts_of done = map (account_of done) (range_with_len 0 256)

-- the encoding of accounts: 3, and the balance and the nonce of each
unfoldable pub purse_bytes : List (ℕ × ℕ) → List ℕ
purse_bytes accounts = 3 ∷ flat_map (λ a. to_be_bytes w32 a.0 ++ to_be_bytes w32 a.1) accounts

-- the list is ten bytes
abbrev pub is_ten_bytes : List ℕ → Bool
is_ten_bytes tx = (length tx == 10) && list_all (λ b. nat_lt b 256) tx

-- A purse accepts a transfer that has the sender's nonce, if the sender has the amount and doesn't pay itself. CheckTx
-- refuses no transfer for its amount, and only smaller nonces. An account is under its number as a key of one byte.
unfoldable pub purse : Meaning
purse = record {
  code = λ done tx. first_code (
      (not (is_ten_bytes tx), 1)
      ∷ (not (nonce_in tx == nonce_of done (sender tx)) || (nonce_of done (sender tx) == 2 ^ 32 - 1), 2)
      ∷ (nat_lt (balance_of done (sender tx)) (amount tx), 3)
      ∷ (sender tx == receiver tx, 4)
      ∷ []);
  check = λ done tx. first_code (
      (not (is_ten_bytes tx), 1)
      ∷ (nat_lt (nonce_in tx) (nonce_of done (sender tx)), 2)
      ∷ (sender tx == receiver tx, 4)
      ∷ []);
  held = λ done key. if length key == 1 then Some (to_be_bytes w32 (balance_of done (slice_index key 0))
      ++ to_be_bytes w32 (nonce_of done (slice_index key 0))) else None;
  state = λ done. purse_bytes (accounts_of done);
}

-- ---- the three kinds

-- What the applications of a kind mean. A program that has the three refuses the kind of an application of one's own.
abbrev pub meaning_of : AppKind → Meaning
meaning_of Own = store
meaning_of KvStore = store
meaning_of Counter = counter
meaning_of Purse = purse
