-- The key and the value of a transaction, given the index of its first equals sign.
use Rattle.std.proofs.Common.{◌≡◌, ℕ, suc, ◌+◌, ◌<◌, Bool, true, false, cond, List, [], ◌∷◌, length, take, drop, Some, None, refl, sym, ap}
use Rattle.std.proofs.Common.{◌∙◌, arith, ltb-true, ltb-false, take_all}
use Rattle.std.specs.Prelude.{position, nat_lt, ◌||◌, not}
use Rattle.std.specs.List.{position_or_len, list_any}
use Rattle.ledger_model.specs.Kinds.{is_equals_sign, key_of, value_in}

-- where the first equals sign is, or the length
abbrev sign_at : List ℕ → ℕ
sign_at tx = position_or_len is_equals_sign tx

key_of-front : (tx : List ℕ) → key_of tx ≡ take (sign_at tx) tx
key_of-front [] = refl
key_of-front (b ∷ bs) = by (is_equals_sign b) (key_of-front bs)
  where
    by : (c : Bool) → key_of bs ≡ take (sign_at bs) bs → cond c [] (b ∷ key_of bs) ≡ take (cond (not c) (1 + sign_at bs) 0) (b ∷ bs)
    by true rest = refl
    by false rest = let e : 1 + sign_at bs ≡ suc (sign_at bs) = omega arith in rw e (ap (λ r. b ∷ r) rest)

length-key_of : (tx : List ℕ) → length (key_of tx) ≡ sign_at tx
length-key_of [] = refl
length-key_of (b ∷ bs) = by (is_equals_sign b) (length-key_of bs)
  where
    by : (c : Bool) → length (key_of bs) ≡ sign_at bs → length (cond c [] (b ∷ key_of bs)) ≡ cond (not c) (1 + sign_at bs) 0
    by true rest = refl
    by false rest = rw rest (omega arith)

has_sign : (tx : List ℕ) → list_any is_equals_sign tx ≡ nat_lt (sign_at tx) (length tx)
has_sign [] = refl
has_sign (b ∷ bs) = by (is_equals_sign b) (has_sign bs)
  where
    by : (c : Bool) → list_any is_equals_sign bs ≡ nat_lt (sign_at bs) (length bs)
        → (c || list_any is_equals_sign bs) ≡ nat_lt (cond (not c) (1 + sign_at bs) 0) (suc (length bs))
    by true rest = grind arith
    by false rest = rw rest (grind arith)

-- the parts where there is an equals sign
pub parts-at : (tx : List ℕ) (at : ℕ) → Some at ≡ position is_equals_sign tx
    → (at < length tx) × (key_of tx ≡ take at tx) × (value_in tx ≡ drop (at + 1) tx)
parts-at tx at is = by (nat_lt (sign_at tx) (length tx)) refl is
  where
    by : (b : Bool) → nat_lt (sign_at tx) (length tx) ≡ b → Some at ≡ cond b (Some (sign_at tx)) None
        → (at < length tx) × (key_of tx ≡ take at tx) × (value_in tx ≡ drop (at + 1) tx)
    by true e found =
        let same : at ≡ sign_at tx = cc in
        let value : value_in tx ≡ drop (length (key_of tx) + 1) tx =
        ap (λ b. cond b (drop (length (key_of tx) + 1) tx) tx) (has_sign tx ∙ e) in (
          rw same (ltb-true _ _ e),
          key_of-front tx ∙ ap (λ n. take n tx) (sym same),
          value
              ∙ ap (λ n. drop (n + 1) tx) (length-key_of tx ∙ sym same),
        )
    by false e found = cc

-- and where there is none
pub parts-whole : (tx : List ℕ) → None ≡ position is_equals_sign tx → (key_of tx ≡ tx) × (value_in tx ≡ tx)
parts-whole tx is = by (nat_lt (sign_at tx) (length tx)) refl is
  where
    by : (b : Bool) → nat_lt (sign_at tx) (length tx) ≡ b → None ≡ cond b (Some (sign_at tx)) None → (key_of tx ≡ tx) × (value_in tx ≡ tx)
    by true e found = cc
    by false e found =
        let long = ltb-false (sign_at tx) (length tx) e in
        (key_of-front tx ∙ take_all (sign_at tx) tx long, ap (λ b. cond b (drop (length (key_of tx) + 1) tx) tx) (has_sign tx ∙ e))
