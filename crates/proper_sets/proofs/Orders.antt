-- Ascending values are one list for each set of values.
use Rattle.std.proofs.Common.{◌≡◌, ℕ, zero, suc, ◌+◌, Bool, true, false, inl, inr, List, [], ◌∷◌, ◌++◌, refl, sym, ap, subst, ◌∙◌, cond}
use Rattle.std.proofs.Common.{not, ◌≤◌, length, append-nil, arith}
use Rattle.std.specs.Prelude.{take, filter, unwrap_or}
use Rattle.std.specs.List.{list_any, insert, position, position_or_len}
use Rattle.std.proofs.lemmas.List.Sums.{prefix_len-le-length}
use Rattle.std.proofs.lemmas.Bool.{and_from, or_parts, cases_Bool, ltb-false}
use Rattle.std.proofs.Math.Dec.{ltb}
use Rattle.proper_sets.specs.Puts.{with_values}
use Rattle.ledger_model.specs.Notes.{Has}
use Rattle.ledger_model.specs.Values.{Value, same_value, is_below, with_value, ascending}
use Rattle.ledger_model.specs.OrderLaws.{same_value-equiv}
use Rattle.ledger_model.specs.Spelling.{are_ascending}
use Rattle.ledger_model.proofs.Below.{tail_ascends, with_value_ascends, ascending_ascends, above_all, one_list}
use Rattle.ledger_model.proofs.Lists.{any_has, filter_has, take_has, with_value_has, ascending_has, has_ascending, same_value-equal}
use Rattle.ledger_model.proofs.Lists.{has_with, has_with_other, has_left, has_right, has_cases}

-- ---- values that ascend

pub ascends_by : (v : Value) (vs : List Value) → ((w : Value) → Has vs w → is_below v w ≡ true) → are_ascending vs ≡ true
    → are_ascending (v ∷ vs) ≡ true
ascends_by v [] h a = refl
ascends_by v (x ∷ xs) h a = and_from (is_below v x) (are_ascending (x ∷ xs)) (h x (inl refl)) a

pub filter-ascends : (p : Value → Bool) (vs : List Value) → are_ascending vs ≡ true → are_ascending (filter p vs) ≡ true
filter-ascends p [] a = refl
filter-ascends p (v ∷ vs) a =
    let rest = filter-ascends p vs (tail_ascends v vs a) in
    elim (p v) as (λ b. are_ascending (cond b (v ∷ filter p vs) (filter p vs)) ≡ true) [
      | true ↦ ascends_by v (filter p vs) (λ w h. above_all v vs a w ((filter_has p vs w h).0)) rest
      | false ↦ rest
    ]

pub take-ascends : (n : ℕ) (vs : List Value) → are_ascending vs ≡ true → are_ascending (take n vs) ≡ true
take-ascends zero vs a = refl
take-ascends (suc n) [] a = refl
take-ascends (suc n) (v ∷ vs) a =
    ascends_by v (take n vs) (λ w h. above_all v vs a w (take_has n vs w h)) (take-ascends n vs (tail_ascends v vs a))

-- ---- which values

-- so `ascending` only says which values are in the list
pub ascending_same : (vs ws : List Value) → ((x : Value) → Has vs x → Has ws x) → ((x : Value) → Has ws x → Has vs x)
    → ascending vs ≡ ascending ws
ascending_same vs ws f g =
    one_list (ascending vs) (ascending ws) (ascending_ascends vs) (ascending_ascends ws)
    (λ x h. has_ascending ws x (f x (ascending_has vs x h))) (λ x h. has_ascending vs x (g x (ascending_has ws x h)))

pub ascending_itself : (vs : List Value) → are_ascending vs ≡ true → ascending vs ≡ vs
ascending_itself vs a = one_list (ascending vs) vs (ascending_ascends vs) a (ascending_has vs) (has_ascending vs)

-- ---- putting one in its place

-- a value that is there stays as it is
pub with_value-there : (v : Value) (ws : List Value) → are_ascending ws ≡ true → Has ws v → with_value v ws ≡ ws
with_value-there v ws a h =
    one_list (with_value v ws) ws (with_value_ascends v ws a) a
    (λ x k. elim (with_value_has v ws x k) [ inl e ↦ subst (Has ws) e h | inr r ↦ r ])
    (λ x k. has_with_other v ws x k)

-- another goes in front of the first one above it
pub with_value-new : (v : Value) (ws : List Value) → list_any (λ w. same_value w v) ws ≡ false
    → with_value v ws ≡ insert ws (position_or_len (is_below v) ws) v
with_value-new v [] h = refl
with_value-new v (w ∷ ws) h =
    let parts = or_parts (same_value w v) (list_any (λ x. same_value x v) ws) h in
    let other : same_value v w ≡ false = same_value-equiv.symm v w ∙ parts.0 in
    elim (cases_Bool (is_below v w)) [
      | inl below ↦ rw (other, below) refl
      | inr above ↦
          let next : 1 + position_or_len (is_below v) ws ≡ suc (position_or_len (is_below v) ws) = omega arith in
          rw (other, above, next) (ap (λ xs. w ∷ xs) (with_value-new v ws parts.1))
    ]

-- the place that is sought is the first above, or the end
pub place_sought : {X : Type 0} (p : X → Bool) (xs : List X) (place : ℕ) → place ≡ unwrap_or (position p xs) (length xs)
    → place ≡ position_or_len p xs
place_sought p xs place e =
    e ∙ elim (cases_Bool (ltb (position_or_len p xs) (length xs))) [
      | inl inside ↦ rw inside refl
      | inr past ↦ let le = prefix_len-le-length (λ x. not (p x)) xs in let ge =
          ltb-false (position_or_len p xs) (length xs) past in rw past (omega arith)
    ]

pub with_value-few : (v : Value) (ws : List Value) → length (with_value v ws) ≤ length ws + 1
with_value-few v [] = omega arith
with_value-few v (w ∷ ws) =
    let rest = with_value-few v ws in
    elim (same_value v w) as (λ b. length (cond b (w ∷ ws) (cond (is_below v w) (v ∷ w ∷ ws) (w ∷ with_value v ws))) ≤ length
    (w ∷ ws) + 1) [
      | true ↦ omega arith
      | false ↦ elim (is_below v w) as (λ b. length (cond b (v ∷ w ∷ ws) (w ∷ with_value v ws)) ≤ length (w ∷ ws) + 1) [
        | true ↦ omega arith
        | false ↦ omega (arith, rest)
      ]
    ]

-- ---- several, one after the other

pub with_values-append : (vs ws xs : List Value) → with_values (vs ++ ws) xs ≡ with_values ws (with_values vs xs)
with_values-append [] ws xs = refl
with_values-append (v ∷ vs) ws xs = with_values-append vs ws (with_value v xs)

pub with_values-ascending : (vs ws : List Value) → are_ascending ws ≡ true → with_values vs ws ≡ ascending (ws ++ vs)
with_values-ascending [] ws a = sym (rw append-nil (ascending_itself ws a))
with_values-ascending (v ∷ vs) ws a =
    with_values-ascending vs (with_value v ws) (with_value_ascends v ws a)
    ∙ ascending_same (with_value v ws ++ vs) (ws ++ v ∷ vs)
    (λ x h. elim (has_cases (with_value v ws) vs x h) [
      | inl k ↦ elim (with_value_has v ws x k) [ inl e ↦ has_right ws (v ∷ vs) x (inl e) | inr r ↦ has_left ws (v ∷ vs) x r ]
      | inr k ↦ has_right ws (v ∷ vs) x (inr k)
    ])
    (λ x h. elim (has_cases ws (v ∷ vs) x h) [
      | inl k ↦ has_left (with_value v ws) vs x (has_with_other v ws x k)
      | inr k ↦ elim k [
        | inl e ↦ has_left (with_value v ws) vs x (subst (Has (with_value v ws)) e (has_with v ws))
        | inr r ↦
            has_right (with_value v ws) vs x r
      ]
    ])

-- ---- as the code puts one

pub with_value-found : (v : Value) (ws : List Value) → are_ascending ws ≡ true → list_any (λ w. same_value w v) ws ≡ true
    → with_value v ws ≡ ws
with_value-found v ws a found =
    let there = any_has (λ w. same_value w v) ws found in
    with_value-there v ws a (subst (Has ws) (same_value-equal there.0 v there.1.1) there.1.0)

pub with_value-placed : (v : Value) (ws : List Value) (place : ℕ) → list_any (λ w. same_value w v) ws ≡ false
    → place ≡ unwrap_or (position (is_below v) ws) (length ws)
    → with_value v ws ≡ insert ws place v
with_value-placed v ws place missing sought =
    with_value-new v ws missing ∙ ap (λ i. insert ws i v) (sym (place_sought (is_below v) ws place sought))
