-- The bytes of a counter in terms of transactions, and the numbers that it reads.
use Rattle.std.proofs.Common.{◌≡◌, ◌≢◌, ℕ, zero, suc, ◌+◌, ◌-◌, ◌*◌, ◌^◌, ◌<◌, ◌≤◌, Bool, true, false, Some, None, List, [], ◌∷◌, ◌++◌}
use Rattle.std.proofs.Common.{length, take, get_or, refl, ap, sym, ◌∙◌, arith, length-append}
use Rattle.std.specs.Prelude.{◌||◌, nat_lt, if◌then◌else◌}
use Rattle.std.specs.Int.{w64, to_be_bytes}
use Rattle.std.proofs.Math.Nat.{pow-suc, mul-le-mul_left, pow-le-pow_right}
use Rattle.std.proofs.lemmas.Bool.{eqb-false, lt-ltb}
use Rattle.std.proofs.lemmas.List.{length-take}
use Rattle.ledger_model.specs.Values.{same_bytes}
use Rattle.ledger_model.specs.Meanings.{accepted_by, LeadToSameBytes, Determines}
use Rattle.ledger_model.specs.Kinds.{counter, counter_bytes, number_in, first_code}
use Rattle.app_states.proofs.Accepted.{accepted-keeps, accepted-passes, leads-on}
use Rattle.app_kinds.proofs.Encodings.{counter_bytes-same}

-- no test of a transaction of code 0 is true
passes-turn : (a b c : Bool) → first_code ((a, 1) ∷ (b || c, 2) ∷ []) ≡ 0 → c ≡ false
passes-turn true b c e = absurd (omega arith)
passes-turn false true c e = absurd (omega arith)
passes-turn false false true e = absurd (omega arith)
passes-turn false false false e = refl

-- the count stays below the last number
counted-next : (done : List (List ℕ)) (tx : List ℕ) → length done < 2 ^ 64 → counter.code done tx ≡ 0 → length (done ++ tx ∷ []) < 2 ^ 64
unfolding counter
counted-next done tx below passes =
    let not_last : length done ≢ 2 ^ 64 - 1 = eqb-false _ _ (passes-turn _ _ _ passes) in
    rw (length-append done (tx ∷ [])) (omega (arith, not_last))

counted-below : (txs : List (List ℕ)) → length (accepted_by counter [] txs) < 2 ^ 64
counted-below txs = accepted-keeps counter (λ done. length done < 2 ^ 64) counted-next [] txs (omega arith)

-- a count is that of the accepted transactions that lead to its bytes
pub length-of_bytes : (txs : List (List ℕ)) (n : ℕ) → n < 2 ^ 64 → counter_bytes n ≡ counter.state (accepted_by counter [] txs)
    → length (accepted_by counter [] txs) ≡ n
unfolding counter
length-of_bytes txs n small e = sym (counter_bytes-same n (length (accepted_by counter [] txs)) small (counted-below txs) e)

-- one transaction more, where it passes
pub state-passes : (txs : List (List ℕ)) (tx : List ℕ) (n : ℕ) → length (accepted_by counter [] txs) ≡ n
    → counter.code (accepted_by counter [] txs) tx ≡ 0 → counter_bytes (n + 1) ≡ counter.state (accepted_by counter [] (txs ++ tx ∷ []))
unfolding counter
state-passes txs tx n same passes =
    rw (accepted-passes counter txs tx passes)
    (ap counter_bytes (sym (length-append (accepted_by counter [] txs) (tx ∷ []) ∙ ap (λ m. m + 1) same)))

-- the answer to a key, where it is `count` and where it isn't
pub held-count : (done : List (List ℕ)) (n : ℕ) (key : List ℕ)
    → same_bytes key (0x63 ∷ 0x6f ∷ 0x75 ∷ 0x6e ∷ 0x74 ∷ []) ≡ true → length done ≡ n
    → counter.held done key ≡ Some (to_be_bytes w64 n)
unfolding counter
held-count done n key test same = rw (same, test) refl

pub held-nothing : (done : List (List ℕ)) (key : List ℕ) → same_bytes key (0x63 ∷ 0x6f ∷ 0x75 ∷ 0x6e ∷ 0x74 ∷ []) ≡ false
    → counter.held done key ≡ None
unfolding counter
held-nothing done key test = rw test refl

pub number_in-push : (bytes : List ℕ) (b : ℕ) → number_in (bytes ++ b ∷ []) ≡ number_in bytes * 256 + b
number_in-push [] b = omega arith
number_in-push (x ∷ xs) b =
    let len : length (xs ++ b ∷ []) ≡ suc (length xs) = length-append xs (b ∷ []) ∙ omega arith in
    let more : 256 ^ length (xs ++ b ∷ []) ≡ 256 ^ length xs * 256 = ap (λ n. 256 ^ n) len ∙ pow-suc 256 (length xs) in
    rw (more, number_in-push xs b) (omega arith)

pub number_in-below : (bytes : List ℕ) → ((k : ℕ) → get_or bytes k 0 < 256) → number_in bytes < 256 ^ length bytes
number_in-below [] small = omega arith
number_in-below (b ∷ bytes) small =
    let p = 256 ^ length bytes in
    let first : b ≤ 255 = omega (arith, small 0) in
    let rest : number_in bytes < p = number_in-below bytes (λ k. small (suc k)) in
    let most : p * b ≤ p * 255 = mul-le-mul_left p first in
    rw (pow-suc 256 (length bytes)) (omega arith)

get_or-take-below : (n k : ℕ) (bytes : List ℕ) → ((i : ℕ) → get_or bytes i 0 < 256) → get_or (take n bytes) k 0 < 256
get_or-take-below zero k bytes small = omega arith
get_or-take-below (suc n) k [] small = small k
get_or-take-below (suc n) zero (b ∷ bytes) small = small 0
get_or-take-below (suc n) (suc k) (b ∷ bytes) small = get_or-take-below n k bytes (λ i. small (suc i))

-- the number of at most seven bytes
pub number_in-take : (bytes : List ℕ) (n : ℕ) → n ≤ 7 → ((k : ℕ) → get_or bytes k 0 < 256) → number_in (take n bytes) < 256 ^ 7
number_in-take bytes n short small =
    let front : (k : ℕ) → get_or (take n bytes) k 0 < 256 = λ k. get_or-take-below n k bytes small in
    let less = number_in-below (take n bytes) front in
    let most : 256 ^ length (take n bytes) ≤ 256 ^ 7 =
    pow-le-pow_right {n = 256} (omega arith) {i = length (take n bytes)} {j = 7} (omega (arith, length-take n bytes)) in
    omega (arith, less, most)

-- what CheckTx answers by the count
pub check-long : (done : List (List ℕ)) (tx : List ℕ) → 8 < length tx → counter.check done tx ≡ 1
unfolding counter
check-long done tx long = rw (lt-ltb 8 (length tx) long) refl

pub check-count : (done : List (List ℕ)) (n : ℕ) (tx : List ℕ) → length done ≡ n
    → counter.check done tx ≡ (if nat_lt 8 (length tx) then 1 else if nat_lt (number_in tx) n then 2 else 0)
unfolding counter
check-count done n tx same = rw same refl

-- transactions that lead to the same bytes lead to the same count
same-count : (txs us : List (List ℕ)) → LeadToSameBytes counter txs us
    → length (accepted_by counter [] txs) ≡ length (accepted_by counter [] us)
unfolding counter
same-count txs us same = length-of_bytes txs (length (accepted_by counter [] us)) (counted-below us) (sym same)

-- the count decides what is answered
code-by_count : (done others : List (List ℕ)) (tx : List ℕ) → length done ≡ length others → counter.code done tx ≡ counter.code others tx
unfolding counter
code-by_count done others tx same = rw same refl

check-by_count : (done others : List (List ℕ)) (tx : List ℕ) → length done ≡ length others → counter.check done tx ≡ counter.check others tx
unfolding counter
check-by_count done others tx same = rw same refl

held-by_count : (done others : List (List ℕ)) (key : List ℕ) → length done ≡ length others → counter.held done key ≡ counter.held others key
unfolding counter
held-by_count done others key same = rw same refl

next-by_count : (done others : List (List ℕ)) (tx : List ℕ) → length done ≡ length others
    → counter.state (done ++ tx ∷ []) ≡ counter.state (others ++ tx ∷ [])
unfolding counter
next-by_count done others tx same = rw (length-append done (tx ∷ []), length-append others (tx ∷ []), same) refl

pub counter_determines : Determines counter
counter_determines = record {
  code = λ txs us tx same. code-by_count _ _ tx (same-count txs us same);
  check = λ txs us tx same. check-by_count _ _ tx (same-count txs us same);
  held = λ txs us key same. held-by_count _ _ key (same-count txs us same);
  state = λ txs us tx same.
      let count = same-count txs us same in
      leads-on counter txs us tx same (code-by_count _ _ tx count) (λ passes. next-by_count _ _ tx count);
}
