-- The codes of a purse, given its accounts.
use Rattle.std.proofs.Common.{◌≡◌, ◌≢◌, ℕ, ◌-◌, ◌^◌, ◌<◌, Bool, true, false, cond, Some, None, List, [], ◌∷◌, ◌++◌, length, get_or, refl, sym, ap}
use Rattle.std.proofs.Common.{◌∙◌}
use Rattle.std.specs.Prelude.{◌==◌, nat_lt, not, ◌||◌, if◌then◌else◌, slice_index}
use Rattle.std.specs.Int.{w32, to_be_bytes}
use Rattle.ledger_model.specs.Kinds.{purse, accounts_of, account_of, sender, receiver, amount, nonce_in, balance_of, nonce_of}
use Rattle.ledger_model.specs.Kinds.{first_code, is_ten_bytes}
use Rattle.app_kinds.specs.declared.account.Account.{Account}
use Rattle.app_kinds.specs.declared.transfer.Transfer.{Transfer}
use Rattle.app_kinds.specs.Purses.{IsTransferOf, balance_at, nonce_at}
use Rattle.app_kinds.proofs.Transfers.{Balance}
use Rattle.app_kinds.proofs.Solvency.{Small, ten_bytes, not_ten_bytes}
use Rattle.app_kinds.proofs.Paying.{held-at, eqb-other}

-- an account of the accounts after these transactions
account-of_state : (done : List (List ℕ)) (ps : List Balance) (i : ℕ) → ps ≡ accounts_of done → i < 256
    → get_or ps i (0, 0) ≡ account_of done i
account-of_state done ps i e below = ap (λ (qs : List Balance). get_or qs i (0, 0)) e ∙ held-at done i below

-- a transfer and its sender's account, as the definitions name them
pub record Judged (done : List (List ℕ)) (tx : List ℕ) (t : Transfer) (a : Account) : Type 0 where
  pub spelled : is_ten_bytes tx ≡ true
  pub from : sender tx ≡ t.from
  pub to : receiver tx ≡ t.to
  pub amount_is : amount tx ≡ t.amount
  pub nonce_is : nonce_in tx ≡ t.nonce
  pub counted : nonce_of done (sender tx) ≡ a.nonce
  pub covered : balance_of done (sender tx) ≡ a.balance

pub judged : (done : List (List ℕ)) (ps : List Balance) (tx : List ℕ) (t : Transfer) (a : Account) → ps ≡ accounts_of done
    → Small tx → IsTransferOf tx t → a.balance ≡ balance_at ps t.from → a.nonce ≡ nonce_at ps t.from → Judged done tx t a
judged done ps tx t a e small read balance nonce =
    let held = account-of_state done ps t.from e read.from_small in
    record {
      spelled = ten_bytes tx read.long small;
      from = sym read.from;
      to = sym read.to;
      amount_is = sym read.amount;
      nonce_is = sym read.nonce;
      counted = ap (nonce_of done) (sym read.from) ∙ sym (ap (λ (h : Balance). h.1) held) ∙ sym nonce;
      covered = ap (balance_of done) (sym read.from) ∙ sym (ap (λ (h : Balance). h.0) held) ∙ sym balance;
    }

first_code-same : (a b c d e f g h : Bool) → a ≡ e → b ≡ f → c ≡ g → d ≡ h
    → first_code ((a, 1) ∷ (b, 2) ∷ (c, 3) ∷ (d, 4) ∷ []) ≡ first_code ((e, 1) ∷ (f, 2) ∷ (g, 3) ∷ (h, 4) ∷ [])
first_code-same a b c d e f g h p q r s = rw (p, q, r, s) refl

pub code-judged : (done : List (List ℕ)) (tx : List ℕ) (t : Transfer) (a : Account) → Judged done tx t a
    → purse.code done tx ≡ (if not (t.nonce == a.nonce) || (a.nonce == 2 ^ 32 - 1) then 2 else if nat_lt a.balance t.amount then 3
    else if t.from == t.to then 4 else 0)
unfolding purse
code-judged done tx t a j =
    first_code-same _ _ _ _ false (not (t.nonce == a.nonce) || (a.nonce == 2 ^ 32 - 1)) (nat_lt a.balance t.amount) (t.from == t.to)
    (ap not j.spelled)
    (ap (λ n. not (n == nonce_of done (sender tx)) || (nonce_of done (sender tx) == 2 ^ 32 - 1)) j.nonce_is
    ∙ ap (λ n. not (t.nonce == n) || (n == 2 ^ 32 - 1)) j.counted)
    (ap (λ n. nat_lt n (amount tx)) j.covered ∙ ap (λ n. nat_lt a.balance n) j.amount_is)
    (ap (λ n. n == receiver tx) j.from ∙ ap (λ n. t.from == n) j.to)

pub code-misspelled : (done : List (List ℕ)) (tx : List ℕ) → length tx ≢ 10 → purse.code done tx ≡ 1
unfolding purse
code-misspelled done tx short = rw (not_ten_bytes tx short) refl

first_check-same : (a b c e f g : Bool) → a ≡ e → b ≡ f → c ≡ g
    → first_code ((a, 1) ∷ (b, 2) ∷ (c, 4) ∷ []) ≡ first_code ((e, 1) ∷ (f, 2) ∷ (g, 4) ∷ [])
first_check-same a b c e f g p q r = rw (p, q, r) refl

pub check-judged : (done : List (List ℕ)) (tx : List ℕ) (t : Transfer) (a : Account) → Judged done tx t a
    → purse.check done tx ≡ (if nat_lt t.nonce a.nonce then 2 else if t.from == t.to then 4 else 0)
unfolding purse
check-judged done tx t a j =
    first_check-same _ _ _ false (nat_lt t.nonce a.nonce) (t.from == t.to)
    (ap not j.spelled)
    (ap (λ n. nat_lt n (nonce_of done (sender tx))) j.nonce_is ∙ ap (λ n. nat_lt t.nonce n) j.counted)
    (ap (λ n. n == receiver tx) j.from ∙ ap (λ n. t.from == n) j.to)

pub check-misspelled : (done : List (List ℕ)) (tx : List ℕ) → length tx ≢ 10 → purse.check done tx ≡ 1
unfolding purse
check-misspelled done tx short = rw (not_ten_bytes tx short) refl

-- the answer to a key
pub held-account : (done : List (List ℕ)) (ps : List Balance) (key : List ℕ) (a : Account) → ps ≡ accounts_of done
    → length key ≡ 1 → slice_index key 0 < 256 → a.balance ≡ balance_at ps (slice_index key 0) → a.nonce ≡ nonce_at ps (slice_index key 0)
    → purse.held done key ≡ Some (to_be_bytes w32 a.balance ++ to_be_bytes w32 a.nonce)
unfolding purse
held-account done ps key a e one below balance nonce =
    let held = account-of_state done ps (slice_index key 0) e below in
    let b : balance_of done (slice_index key 0) ≡ a.balance = sym (balance ∙ ap (λ (h : Balance). h.0) held) in
    let n : nonce_of done (slice_index key 0) ≡ a.nonce = sym (nonce ∙ ap (λ (h : Balance). h.1) held) in
    ap (λ m. cond (m == 1) (Some (to_be_bytes w32 (balance_of done (slice_index key 0))
    ++ to_be_bytes w32 (nonce_of done (slice_index key 0)))) None) one
    ∙ ap (λ m. Some (to_be_bytes w32 m ++ to_be_bytes w32 (nonce_of done (slice_index key 0)))) b
    ∙ ap (λ m. Some (to_be_bytes w32 a.balance ++ to_be_bytes w32 m)) n

pub held-no_account : (done : List (List ℕ)) (key : List ℕ) → length key ≢ 1 → purse.held done key ≡ None
unfolding purse
held-no_account done key other =
    ap (λ b. cond b (Some (to_be_bytes w32 (balance_of done (slice_index key 0)) ++ to_be_bytes w32 (nonce_of done (slice_index key 0))))
    None) (eqb-other (length key) 1 other)
