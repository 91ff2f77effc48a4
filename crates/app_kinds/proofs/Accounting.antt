-- The bytes of a purse, in terms of transactions.
use Rattle.std.proofs.Common.{◌≡◌, ℕ, ◌^◌, ◌<◌, ◌≤◌, Bool, true, false, List, [], ◌∷◌, ◌++◌, get_or, map, refl, sym, ap, ◌∙◌, arith}
use Rattle.std.proofs.Common.{ltb-true, ltb-false}
use Rattle.std.specs.Prelude.{slice_index, nat_lt}
use Rattle.std.specs.List.{range_with_len}
use Rattle.std.proofs.lemmas.List.Sums.{get_or-le-sum_by}
use Rattle.ledger_model.specs.Meanings.{accepted_by, LeadToSameBytes, Determines}
use Rattle.ledger_model.specs.Kinds.{purse, purse_bytes, accounts_of, account_of, sender, receiver, amount, balance_of, nonce_of}
use Rattle.app_kinds.specs.declared.transfer.Transfer.{Transfer}
use Rattle.app_kinds.specs.Purses.{IsTransferOf, balance_at, total_of, FitFourBytes}
use Rattle.app_states.proofs.Accepted.{accepted-passes, leads-on}
use Rattle.app_kinds.proofs.Encodings.{purse_bytes-same}
use Rattle.app_kinds.proofs.Transfers.{Balance, moved}
use Rattle.app_kinds.proofs.Solvency.{code-passes}
use Rattle.app_kinds.proofs.Paying.{held-at, held-push, length-held}
use Rattle.app_kinds.proofs.Totals.{Sound, accepted-sound}

-- the balance and the nonce of each account fit four bytes
fits-each : (f : ℕ → Balance) → ((a : ℕ) → ((f a).0 < 2 ^ 32) × ((f a).1 < 2 ^ 32)) → (ns : List ℕ) → FitFourBytes (map f ns)
fits-each f fits [] = tt
fits-each f fits (n ∷ ns) = (fits n, fits-each f fits ns)

by_total : (b n total : ℕ) → b ≤ total → b ≡ n → total ≡ 256000 → n < 2 ^ 32
by_total b n total most same is = omega arith

by_opening : (n : ℕ) → n ≡ 1000 → n < 2 ^ 32
by_opening n is = omega arith

balance-below : (done : List (List ℕ)) (a : ℕ) → Sound done → balance_of done a < 2 ^ 32
balance-below done a sound = by (nat_lt a 256) refl
  where
    by : (b : Bool) → nat_lt a 256 ≡ b → balance_of done a < 2 ^ 32
    by true e =
        let below = ltb-true a 256 e in
        let most : balance_at (accounts_of done) a ≤ total_of (accounts_of done) =
        get_or-le-sum_by (λ (h : Balance). h.0) (accounts_of done) a (0, 0) (rw (length-held done) below) in
        let same : balance_at (accounts_of done) a ≡ balance_of done a = ap (λ (h : Balance). h.0) (held-at done a below) in
        by_total _ _ _ most same sound.total
    by false e =
        let same : balance_of done a ≡ 1000 = ap (λ (h : Balance). h.0) (sound.beyond a (ltb-false a 256 e)) in
        by_opening _ same

pub accepted-fits : (txs : List (List ℕ)) → FitFourBytes (accounts_of (accepted_by purse [] txs))
accepted-fits txs =
    let done = accepted_by purse [] txs in
    let sound = accepted-sound txs in
    fits-each (account_of done) (λ a. (balance-below done a sound, sound.counted a)) (range_with_len 0 256)

-- the accounts whose bytes are those of accepted transactions
pub accounts-of_bytes : (txs : List (List ℕ)) (ps : List Balance) → FitFourBytes ps
    → purse_bytes ps ≡ purse.state (accepted_by purse [] txs) → ps ≡ accounts_of (accepted_by purse [] txs)
unfolding purse
accounts-of_bytes txs ps fits e = purse_bytes-same ps (accounts_of (accepted_by purse [] txs)) fits (accepted-fits txs) e

-- one transaction more, where it is accepted
accounts-push : (txs : List (List ℕ)) (tx : List ℕ) → purse.code (accepted_by purse [] txs) tx ≡ 0
    → accounts_of (accepted_by purse [] txs ++ tx ∷ []) ≡ moved (accounts_of (accepted_by purse [] txs)) (sender tx) (receiver tx)
    (amount tx)
accounts-push txs tx passes =
    let done = accepted_by purse [] txs in
    let can = code-passes done tx passes in
    held-push done tx (accepted-sound txs).solvent can.apart (can.small 0) (can.small 1)

pub state-transferred : (txs : List (List ℕ)) (tx : List ℕ) (ps qs : List Balance) (t : Transfer)
    → ps ≡ accounts_of (accepted_by purse [] txs) → purse.code (accepted_by purse [] txs) tx ≡ 0 → IsTransferOf tx t
    → qs ≡ moved ps t.from t.to t.amount → purse_bytes qs ≡ purse.state (accepted_by purse [] (txs ++ tx ∷ []))
unfolding purse
state-transferred txs tx ps qs t e passes read is =
    ap purse_bytes (is ∙ ap (λ n. moved ps n t.to t.amount) read.from ∙ ap (λ n. moved ps (sender tx) n t.amount) read.to
    ∙ ap (λ n. moved ps (sender tx) (receiver tx) n) read.amount
    ∙ ap (λ (rs : List Balance). moved rs (sender tx) (receiver tx) (amount tx)) e ∙ sym (accounts-push txs tx passes))
    ∙ ap purse.state (sym (accepted-passes purse txs tx passes))

-- ---- the bytes determine the accounts

same-accounts : (txs us : List (List ℕ)) → LeadToSameBytes purse txs us
    → accounts_of (accepted_by purse [] txs) ≡ accounts_of (accepted_by purse [] us)
unfolding purse
same-accounts txs us same = accounts-of_bytes us (accounts_of (accepted_by purse [] txs)) (accepted-fits txs) same

-- and so each account, also beyond the 256
same-account : (txs us : List (List ℕ)) → LeadToSameBytes purse txs us → (a : ℕ)
    → account_of (accepted_by purse [] txs) a ≡ account_of (accepted_by purse [] us) a
same-account txs us same a = by (nat_lt a 256) refl
  where
    by : (b : Bool) → nat_lt a 256 ≡ b → account_of (accepted_by purse [] txs) a ≡ account_of (accepted_by purse [] us) a
    by true e =
        let below = ltb-true a 256 e in
        sym (held-at (accepted_by purse [] txs) a below)
        ∙ ap (λ (ps : List Balance). get_or ps a (0, 0)) (same-accounts txs us same) ∙ held-at (accepted_by purse [] us) a below
    by false e =
        let far = ltb-false a 256 e in
        (accepted-sound txs).beyond a far ∙ sym ((accepted-sound us).beyond a far)

-- the accounts decide what is answered
code-by_account : (done others : List (List ℕ)) (tx : List ℕ) → account_of done (sender tx) ≡ account_of others (sender tx)
    → purse.code done tx ≡ purse.code others tx
unfolding purse
code-by_account done others tx same =
    let balance : balance_of done (sender tx) ≡ balance_of others (sender tx) = ap (λ (h : Balance). h.0) same in
    let nonce : nonce_of done (sender tx) ≡ nonce_of others (sender tx) = ap (λ (h : Balance). h.1) same in
    rw (balance, nonce) refl

check-by_account : (done others : List (List ℕ)) (tx : List ℕ) → account_of done (sender tx) ≡ account_of others (sender tx)
    → purse.check done tx ≡ purse.check others tx
unfolding purse
check-by_account done others tx same =
    let nonce : nonce_of done (sender tx) ≡ nonce_of others (sender tx) = ap (λ (h : Balance). h.1) same in
    rw nonce refl

held-by_account : (done others : List (List ℕ)) (key : List ℕ)
    → account_of done (slice_index key 0) ≡ account_of others (slice_index key 0) → purse.held done key ≡ purse.held others key
unfolding purse
held-by_account done others key same =
    let balance : balance_of done (slice_index key 0) ≡ balance_of others (slice_index key 0) = ap (λ (h : Balance). h.0) same in
    let nonce : nonce_of done (slice_index key 0) ≡ nonce_of others (slice_index key 0) = ap (λ (h : Balance). h.1) same in
    rw (balance, nonce) refl

next-by_accounts : (txs us : List (List ℕ)) (tx : List ℕ) → LeadToSameBytes purse txs us
    → purse.code (accepted_by purse [] txs) tx ≡ 0 → purse.code (accepted_by purse [] us) tx ≡ 0
    → purse.state (accepted_by purse [] txs ++ tx ∷ []) ≡ purse.state (accepted_by purse [] us ++ tx ∷ [])
unfolding purse
next-by_accounts txs us tx same passes pass =
    ap purse_bytes (accounts-push txs tx passes
    ∙ ap (λ (ps : List Balance). moved ps (sender tx) (receiver tx) (amount tx)) (same-accounts txs us same)
    ∙ sym (accounts-push us tx pass))

pub purse_determines : Determines purse
purse_determines = record {
  code = λ txs us tx same. code-by_account _ _ tx (same-account txs us same (sender tx));
  check = λ txs us tx same. check-by_account _ _ tx (same-account txs us same (sender tx));
  held = λ txs us key same. held-by_account _ _ key (same-account txs us same (slice_index key 0));
  state = λ txs us tx same.
      let code = code-by_account _ _ tx (same-account txs us same (sender tx)) in
      leads-on purse txs us tx same code (λ passes. next-by_accounts txs us tx same passes (sym code ∙ passes));
}
