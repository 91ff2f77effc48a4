-- What a purse always keeps, whatever transactions it gets: no account is overdrawn, the balances add up to what they were
-- at the opening, no nonce passes the last number, and beyond the 256 accounts there is nothing.
use Rattle.std.proofs.Common.{◌≡◌, ◌≢◌, ℕ, ◌+◌, ◌-◌, ◌^◌, ◌<◌, ◌≤◌, Bool, true, false, cond, List, [], ◌∷◌, ◌++◌, map, refl, sym, ap, ◌∙◌, arith}
use Rattle.std.proofs.Common.{eqb-true}
use Rattle.std.specs.Prelude.{◌==◌}
use Rattle.std.specs.List.{range_with_len, fold}
use Rattle.ledger_model.specs.Meanings.{accepted_by}
use Rattle.ledger_model.specs.Kinds.{purse, sender, receiver, amount, nonce_of, account_of, accounts_of}
use Rattle.app_kinds.specs.Balances.{TotalStays}
use Rattle.app_kinds.specs.Purses.{balance_at, total_of}
use Rattle.app_states.proofs.Accepted.{accepted-keeps}
use Rattle.app_kinds.proofs.Transfers.{Balance, total-transfer}
use Rattle.app_kinds.proofs.Solvency.{Solvent, none-solvent, solvent-push, IsCovered, code-passes, nonce-push}
use Rattle.app_kinds.proofs.Paying.{held-at, held-push, length-held, at-other}

-- what a purse keeps by its definition
pub record Sound (done : List (List ℕ)) : Type 0 where
  pub solvent : Solvent done
  pub total : total_of (accounts_of done) ≡ 256000
  pub counted : (a : ℕ) → nonce_of done a < 2 ^ 32
  pub beyond : (a : ℕ) → 256 ≤ a → account_of done a ≡ (1000, 0)

next_below : (n : ℕ) → n < 2 ^ 32 → n ≢ 2 ^ 32 - 1 → n + 1 < 2 ^ 32
next_below n below not_last = omega arith

same_below : (n : ℕ) → n < 2 ^ 32 → n + 0 < 2 ^ 32
same_below n below = omega arith

far_apart : (a b : ℕ) → 256 ≤ a → b < 256 → a ≢ b
far_apart a b far near e = absurd (omega arith)

module _ (done : List (List ℕ)) (tx : List ℕ) (sound : Sound done) (can : IsCovered done tx) where
  total-push : total_of (accounts_of (done ++ tx ∷ [])) ≡ 256000
  total-push =
      let covered : amount tx ≤ balance_at (accounts_of done) (sender tx) =
      rw (ap (λ (h : Balance). h.0) (held-at done (sender tx) (can.small 0))) can.covered in
      ap total_of (held-push done tx sound.solvent can.apart (can.small 0) (can.small 1))
      ∙ total-transfer (accounts_of done) (sender tx) (receiver tx) (amount tx) (rw (length-held done) (can.small 0))
      (rw (length-held done) (can.small 1)) can.apart covered
      ∙ sound.total

  counted-push : (a : ℕ) → nonce_of (done ++ tx ∷ []) a < 2 ^ 32
  counted-push a = rw (nonce-push done tx a) (by (sender tx == a) refl)
    where
      by : (b : Bool) → (sender tx == a) ≡ b → nonce_of done a + cond b 1 0 < 2 ^ 32
      by true e =
          let is = eqb-true (sender tx) a e in
          let not_last : nonce_of done a ≢ 2 ^ 32 - 1 = rw (← is) can.not_last in
          next_below (nonce_of done a) (sound.counted a) not_last
      by false e = same_below (nonce_of done a) (sound.counted a)

  beyond-push : (a : ℕ) → 256 ≤ a → account_of (done ++ tx ∷ []) a ≡ (1000, 0)
  beyond-push a far =
      at-other done tx sound.solvent can.apart a (far_apart a (sender tx) far (can.small 0)) (far_apart a (receiver tx) far (can.small 1))
      ∙ sound.beyond a far

  sound-push : Sound (done ++ tx ∷ [])
  sound-push = record {
    solvent = solvent-push done tx sound.solvent can.covered;
    total = total-push;
    counted = counted-push;
    beyond = beyond-push;
  }

opening : Sound []
opening = record { solvent = none-solvent; total = refl; counted = λ a. omega arith; beyond = λ a far. refl }

pub accepted-sound : (txs : List (List ℕ)) → Sound (accepted_by purse [] txs)
accepted-sound txs =
    accepted-keeps purse (λ done. Sound done) (λ done tx sound passes. sound-push done tx sound (code-passes done tx passes)) [] txs opening

-- a sum over accounts is one over their numbers
sum-held : (f : ℕ → Balance) (a : ℕ) (ns : List ℕ)
    → fold (λ (n : ℕ) (h : Balance). n + h.0) a (map f ns) ≡ fold (λ (n : ℕ) (i : ℕ). n + (f i).0) a ns
sum-held f a [] = refl
sum-held f a (n ∷ ns) = sum-held f (a + (f n).0) ns

pub total_stays : TotalStays
total_stays txs =
    let done = accepted_by purse [] txs in
    sym (sum-held (account_of done) 0 (range_with_len 0 256)) ∙ (accepted-sound txs).total
