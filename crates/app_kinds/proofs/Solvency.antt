-- No purse pays more than it has.
use Rattle.std.proofs.Common.{◌≡◌, ◌≢◌, ℕ, suc, zero, ◌+◌, ◌-◌, ◌^◌, ◌<◌, ◌≤◌, Bool, true, false, cond, List, [], ◌∷◌, ◌++◌, length}
use Rattle.std.proofs.Common.{get_or, refl, ap, ◌∙◌, arith, eqb-true, ltb-false, ltb-true, length-append}
use Rattle.std.specs.Prelude.{◌==◌, ◌&&◌, ◌||◌, not, nat_lt}
use Rattle.std.specs.List.{sum_by, filter}
use Rattle.std.proofs.lemmas.List.Sums.{sum_by-append}
use Rattle.std.proofs.lemmas.List.Elements.{filter-append}
use Rattle.std.specs.List.{list_all}
use Rattle.std.proofs.lemmas.Bool.{eqb-false, lt-ltb}
use Rattle.ledger_model.specs.Meanings.{accepted_by}
use Rattle.ledger_model.specs.Kinds.{purse, first_code, is_ten_bytes, sender, receiver, amount, sent_by, balance_of, nonce_of}
use Rattle.app_states.proofs.Accepted.{accepted-keeps}

abbrev pub received : List (List ℕ) → ℕ → ℕ
received done account = sum_by amount (filter (λ tx. receiver tx == account) done)

abbrev pub sent : List (List ℕ) → ℕ → ℕ
sent done account = sum_by amount (sent_by done account)

-- a sum over what passes, with one more
sum_by-filter_push : (p : List ℕ → Bool) (done : List (List ℕ)) (tx : List ℕ)
    → sum_by amount (filter p (done ++ tx ∷ [])) ≡ sum_by amount (filter p done) + cond (p tx) (amount tx) 0
sum_by-filter_push p done tx =
    ap (sum_by amount) (filter-append p done (tx ∷ [])) ∙ sum_by-append amount (filter p done) (filter p (tx ∷ []))
    ∙ ap (λ n. sum_by amount (filter p done) + n) (by (p tx))
  where
    by : (b : Bool) → sum_by amount (cond b (tx ∷ []) []) ≡ cond b (amount tx) 0
    by true = omega arith
    by false = refl

pub sent-push : (done : List (List ℕ)) (tx : List ℕ) (a : ℕ) → sent (done ++ tx ∷ []) a ≡ sent done a + cond (sender tx == a) (amount tx) 0
sent-push done tx a = sum_by-filter_push (λ t. sender t == a) done tx

pub received-push : (done : List (List ℕ)) (tx : List ℕ) (a : ℕ)
    → received (done ++ tx ∷ []) a ≡ received done a + cond (receiver tx == a) (amount tx) 0
received-push done tx a = sum_by-filter_push (λ t. receiver t == a) done tx

pub nonce-push : (done : List (List ℕ)) (tx : List ℕ) (a : ℕ) → nonce_of (done ++ tx ∷ []) a ≡ nonce_of done a + cond (sender tx == a) 1 0
nonce-push done tx a =
    ap length (filter-append (λ t. sender t == a) done (tx ∷ [])) ∙ length-append (sent_by done a) (filter (λ t. sender t == a) (tx ∷ []))
    ∙ ap (λ n. nonce_of done a + n) (by (sender tx == a))
  where
    by : (b : Bool) → length (cond b (tx ∷ []) []) ≡ cond b 1 0
    by true = refl
    by false = refl

-- ---- ten bytes

-- each number is a byte
abbrev pub Small : List ℕ → Type 0
Small bytes = (k : ℕ) → get_or bytes k 0 < 256

small-list_all : (bytes : List ℕ) → Small bytes → list_all (λ b. nat_lt b 256) bytes ≡ true
small-list_all [] small = refl
small-list_all (b ∷ bytes) small =
    let first : nat_lt b 256 ≡ true = lt-ltb b 256 (small 0) in
    rw (first, small-list_all bytes (λ k. small (suc k))) refl

both : (p q : Bool) → (p && q) ≡ true → (p ≡ true) × (q ≡ true)
both true true e = (refl, refl)
both true false e = absurd cc
both false q e = absurd cc

list_all-small : (bytes : List ℕ) → list_all (λ b. nat_lt b 256) bytes ≡ true → Small bytes
list_all-small [] all k = omega arith
list_all-small (b ∷ bytes) all zero = ltb-true b 256 (both (nat_lt b 256) (list_all (λ c. nat_lt c 256) bytes) all).0
list_all-small (b ∷ bytes) all (suc k) = list_all-small bytes (both (nat_lt b 256) (list_all (λ c. nat_lt c 256) bytes) all).1 k

pub ten_bytes : (tx : List ℕ) → length tx ≡ 10 → Small tx → is_ten_bytes tx ≡ true
ten_bytes tx long small = rw (long, small-list_all tx small) refl

ten_bytes-small : (tx : List ℕ) → is_ten_bytes tx ≡ true → Small tx
ten_bytes-small tx is = list_all-small tx (both (length tx == 10) (list_all (λ b. nat_lt b 256) tx) is).1

pub not_ten_bytes : (tx : List ℕ) → length tx ≢ 10 → is_ten_bytes tx ≡ false
not_ten_bytes tx other = let short : (length tx == 10) ≡ false = grind arith in rw short refl

-- ---- a transaction of code 0

-- the four tests of a transaction of code 0
record Passes (a b c d : Bool) : Type 0 where
  pub spelled : a ≡ true
  pub in_turn : b ≡ false
  pub covered : c ≡ false
  pub apart : d ≡ false

first_code-passes : (a b c d : Bool) → first_code ((not a, 1) ∷ (b, 2) ∷ (c, 3) ∷ (d, 4) ∷ []) ≡ 0 → Passes a b c d
first_code-passes false b c d e = absurd (omega arith)
first_code-passes true true c d e = absurd (omega arith)
first_code-passes true false true d e = absurd (omega arith)
first_code-passes true false false true e = absurd (omega arith)
first_code-passes true false false false e = record { spelled = refl; in_turn = refl; covered = refl; apart = refl }

second-false : (a b : Bool) → (a || b) ≡ false → b ≡ false
second-false true b e = absurd cc
second-false false b e = e

-- what a transaction of code 0 says, and what its sender has
pub record IsCovered (done : List (List ℕ)) (tx : List ℕ) : Type 0 where
  pub small : Small tx
  pub not_last : nonce_of done (sender tx) ≢ 2 ^ 32 - 1
  pub covered : amount tx ≤ balance_of done (sender tx)
  pub apart : sender tx ≢ receiver tx

pub code-passes : (done : List (List ℕ)) (tx : List ℕ) → purse.code done tx ≡ 0 → IsCovered done tx
unfolding purse
code-passes done tx e =
    let p = first_code-passes _ _ _ _ e in
    record {
      small = ten_bytes-small tx p.spelled;
      not_last = eqb-false _ _ (second-false _ _ p.in_turn);
      covered = ltb-false _ _ p.covered;
      apart = eqb-false (sender tx) (receiver tx) p.apart;
    }

-- no account paid more than it had
pub record Solvent (done : List (List ℕ)) : Type 0 where
  pub covered : (a : ℕ) → sent done a ≤ 1000 + received done a

pub solvent-push : (done : List (List ℕ)) (tx : List ℕ) → Solvent done → amount tx ≤ balance_of done (sender tx) → Solvent (done ++ tx ∷ [])
solvent-push done tx fine paid = record {
  covered = λ a.
      rw (sent-push done tx a, received-push done tx a) (by a (sender tx == a) refl);
}
  where
    by : (a : ℕ) (b : Bool) → (sender tx == a) ≡ b
        → sent done a + cond b (amount tx) 0 ≤ 1000 + (received done a + cond (receiver tx == a) (amount tx) 0)
    by a true e =
        let is = eqb-true (sender tx) a e in
        let enough : amount tx ≤ balance_of done a = rw (← is) paid in
        omega (arith, fine.covered a)
    by a false e = omega (arith, fine.covered a)

pub none-solvent : Solvent []
none-solvent = record { covered = λ a. omega arith }

pub accepted-solvent : (txs : List (List ℕ)) → Solvent (accepted_by purse [] txs)
accepted-solvent txs =
    accepted-keeps purse (λ done. Solvent done) (λ done tx fine passes. solvent-push done tx fine (code-passes done tx passes).covered)
    [] txs none-solvent
