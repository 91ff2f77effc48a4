-- The accounts of a purse after one more transfer.
use Rattle.std.proofs.Common.{◌≡◌, ◌≢◌, ℕ, ◌+◌, ◌-◌, ◌<◌, ◌⊎◌, inl, inr, true, false, cond, List, [], ◌∷◌, ◌++◌, length, get_or, refl}
use Rattle.std.proofs.Common.{sym, ap, ◌∙◌, arith}
use Rattle.std.specs.Prelude.{◌==◌}
use Rattle.std.proofs.lemmas.List.{ext_get_or, length-set}
use Rattle.std.proofs.lemmas.List.FromFn.{get_or-map-range_with_len, length-map-range_with_len}
use Rattle.std.proofs.lemmas.Bool.{cases_eq, eq-eqb, ne_eqb}
use Rattle.ledger_model.specs.Kinds.{sender, receiver, amount, balance_of, nonce_of, account_of, accounts_of}
use Rattle.app_kinds.proofs.Transfers.{Balance, moved, moved-at_receiver, moved-at_sender, moved-at_other}
use Rattle.app_kinds.proofs.Solvency.{sent, received, sent-push, received-push, nonce-push, Solvent}

pub held-at : (done : List (List ℕ)) (i : ℕ) → i < 256 → get_or (accounts_of done) i (0, 0) ≡ account_of done i
held-at done i below = get_or-map-range_with_len (account_of done) 0 256 i i (0, 0) below (omega arith)

pub length-held : (done : List (List ℕ)) → length (accounts_of done) ≡ 256
length-held done = length-map-range_with_len (account_of done) 0 256

-- which accounts a transaction leaves as they are
pub eqb-other : (a b : ℕ) → a ≢ b → (a == b) ≡ false
eqb-other = ne_eqb

eqb-self : (a : ℕ) → (a == a) ≡ true
eqb-self a = eq-eqb a a refl

module _ (done : List (List ℕ)) (tx : List ℕ) (fine : Solvent done) (apart : sender tx ≢ receiver tx) where
  at-receiver : account_of (done ++ tx ∷ []) (receiver tx) ≡ (balance_of done (receiver tx) + amount tx, nonce_of done (receiver tx))
  at-receiver =
      let s = sent-push done tx (receiver tx) ∙ ap (λ b. sent done (receiver tx) + cond b (amount tx) 0) (eqb-other _ _ apart) in
      let r = received-push done tx (receiver tx) ∙ ap (λ b. received done (receiver tx) + cond b (amount tx) 0) (eqb-self (receiver tx)) in
      let n : nonce_of (done ++ tx ∷ []) (receiver tx) ≡ nonce_of done (receiver tx) =
      nonce-push done tx (receiver tx) ∙ ap (λ b. nonce_of done (receiver tx) + cond b 1 0) (eqb-other _ _ apart) ∙ omega arith in
      let b : balance_of (done ++ tx ∷ []) (receiver tx) ≡ balance_of done (receiver tx) + amount tx =
      omega (arith, s, r, fine.covered (receiver tx)) in
      λ k. (b k, n k)

  at-sender : account_of (done ++ tx ∷ []) (sender tx) ≡ (balance_of done (sender tx) - amount tx, nonce_of done (sender tx) + 1)
  at-sender =
      let s = sent-push done tx (sender tx) ∙ ap (λ b. sent done (sender tx) + cond b (amount tx) 0) (eqb-self (sender tx)) in
      let r = received-push done tx (sender tx)
      ∙ ap (λ b. received done (sender tx) + cond b (amount tx) 0) (eqb-other _ _ (λ e. apart (sym e))) in
      let n : nonce_of (done ++ tx ∷ []) (sender tx) ≡ nonce_of done (sender tx) + 1 =
      nonce-push done tx (sender tx) ∙ ap (λ b. nonce_of done (sender tx) + cond b 1 0) (eqb-self (sender tx)) in
      let b : balance_of (done ++ tx ∷ []) (sender tx) ≡ balance_of done (sender tx) - amount tx = omega (arith, s, r) in
      λ k. (b k, n k)

  pub at-other : (a : ℕ) → a ≢ sender tx → a ≢ receiver tx → account_of (done ++ tx ∷ []) a ≡ account_of done a
  at-other a no_sender no_receiver =
      let s = sent-push done tx a ∙ ap (λ b. sent done a + cond b (amount tx) 0) (eqb-other _ _ (λ e. no_sender (sym e))) in
      let r = received-push done tx a ∙ ap (λ b. received done a + cond b (amount tx) 0) (eqb-other _ _ (λ e. no_receiver (sym e))) in
      let n : nonce_of (done ++ tx ∷ []) a ≡ nonce_of done a =
      nonce-push done tx a ∙ ap (λ b. nonce_of done a + cond b 1 0) (eqb-other _ _ (λ e. no_sender (sym e))) ∙ omega arith in
      let b : balance_of (done ++ tx ∷ []) a ≡ balance_of done a = omega (arith, s, r) in
      λ k. (b k, n k)

  -- an accepted transfer moves its amount
  pub held-push : sender tx < 256 → receiver tx < 256
      → accounts_of (done ++ tx ∷ []) ≡ moved (accounts_of done) (sender tx) (receiver tx) (amount tx)
  held-push hs hr = ext_get_or (0, 0) (accounts_of (done ++ tx ∷ [])) (moved (accounts_of done) (sender tx) (receiver tx) (amount tx)) long
      same
    where
      long : length (accounts_of (done ++ tx ∷ [])) ≡ length (moved (accounts_of done) (sender tx) (receiver tx) (amount tx))
      long = length-held (done ++ tx ∷ [])
          ∙ sym (length-set _ (receiver tx) _ ∙ length-set (accounts_of done) (sender tx) _ ∙ length-held done)

      same : (i : ℕ) → i < length (accounts_of (done ++ tx ∷ []))
          → get_or (accounts_of (done ++ tx ∷ [])) i (0, 0) ≡ get_or (moved (accounts_of done) (sender tx) (receiver tx) (amount tx)) i
          (0, 0)
      same i below = by (cases_eq i (receiver tx)) (cases_eq i (sender tx))
        where
          inside : i < 256
          inside = rw (length-held (done ++ tx ∷ [])) at below

          by : (i ≡ receiver tx) ⊎ (i ≡ receiver tx → ⊥) → (i ≡ sender tx) ⊎ (i ≡ sender tx → ⊥)
              → get_or (accounts_of (done ++ tx ∷ [])) i (0, 0)
              ≡ get_or (moved (accounts_of done) (sender tx) (receiver tx) (amount tx)) i (0, 0)
          by (inl r) s = rw r (
              held-at (done ++ tx ∷ []) (receiver tx) hr ∙ at-receiver
              ∙ sym (moved-at_receiver (accounts_of done) (sender tx) (receiver tx) (amount tx) (rw (length-held done) hr)
              ∙ ap (λ (h : Balance). let g : Balance = (h.0 + amount tx, h.1) in g) (held-at done (receiver tx) hr)))
          by (inr r) (inl s) = rw s (
              held-at (done ++ tx ∷ []) (sender tx) hs ∙ at-sender
              ∙ sym (moved-at_sender (accounts_of done) (sender tx) (receiver tx) (amount tx) (rw (length-held done) hs) apart
              ∙ ap (λ (h : Balance). let g : Balance = (h.0 - amount tx, h.1 + 1) in g) (held-at done (sender tx) hs)))
          by (inr r) (inr s) =
              held-at (done ++ tx ∷ []) i inside ∙ at-other i s r
              ∙ sym (moved-at_other (accounts_of done) (sender tx) (receiver tx) (amount tx) i s r ∙ held-at done i inside)
