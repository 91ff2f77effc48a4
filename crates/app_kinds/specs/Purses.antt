-- The accounts of a purse as contracts see them: the balance and the nonce of each.
use Rattle.std.specs.Prelude.{◌≡◌, ◌≢◌, ℕ, ◌+◌, ◌^◌, ◌<◌, ◌≤◌, List, length, map, slice_index_or}
use Rattle.std.specs.List.{sum_by, AllByRecursion}
use Rattle.app_kinds.specs.declared.account.Account.{Account}
use Rattle.app_kinds.specs.declared.transfer.Transfer.{Transfer}
use Rattle.ledger_model.specs.Kinds.{sender, receiver, amount, nonce_in}

-- the balance and the nonce of each account
abbrev pub shown : List Account → List (ℕ × ℕ)
shown accounts = map (λ a. (a.balance, a.nonce)) accounts

-- the balance of account i
abbrev pub balance_at : List (ℕ × ℕ) → ℕ → ℕ
balance_at accounts i = (slice_index_or accounts i (0, 0)).0

-- the nonce of account i
abbrev pub nonce_at : List (ℕ × ℕ) → ℕ → ℕ
nonce_at accounts i = (slice_index_or accounts i (0, 0)).1

-- the sum of all balances
abbrev pub total_of : List (ℕ × ℕ) → ℕ
total_of accounts = sum_by (λ a. a.0) accounts

-- the balance and the nonce of each account fit four bytes
abbrev pub FitFourBytes : List (ℕ × ℕ) → Type 0
FitFourBytes accounts = AllByRecursion (λ a. (a.0 < 2 ^ 32) × (a.1 < 2 ^ 32)) accounts

-- the transfer is the one that the ten bytes encode
pub record IsTransferOf (bytes : List ℕ) (transfer : Transfer) : Type 0 where
  pub long : length bytes ≡ 10
  pub from : transfer.from ≡ sender bytes
  pub to : transfer.to ≡ receiver bytes
  pub amount : transfer.amount ≡ amount bytes
  pub nonce : transfer.nonce ≡ nonce_in bytes
  pub from_small : transfer.from < 256
  pub to_small : transfer.to < 256

-- sender and receiver differ, the sender has the amount, and its nonce is not the last one
pub record CanMove (accounts : List (ℕ × ℕ)) (transfer : Transfer) : Type 0 where
  pub apart : transfer.from ≢ transfer.to
  pub covered : transfer.amount ≤ balance_at accounts transfer.from
  pub counted : nonce_at accounts transfer.from + 1 < 2 ^ 32
