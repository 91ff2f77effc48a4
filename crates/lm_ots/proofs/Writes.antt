-- The effect of a write to a part of a list.
use Rattle.std.proofs.Common.{◌≡◌, ℕ, ◌+◌, ◌<◌, ◌≤◌, List, [], ◌∷◌, ◌++◌, length, take, drop, set, get_or, slice_index, sym, ap, subst, inl}
use Rattle.std.proofs.Common.{inr, ◌∙◌, arith, rules}
use Rattle.std.proofs.lemmas.List.{take_all, take_at, drop_all, drop_at, append-nil, length-take-le, length-drop, length-append, places}
use Rattle.std.proofs.lemmas.List.{take_more_set, length-set, get_or_append_left, get_or-take, get_or-set_same, get_or-set_other}
use Rattle.std.proofs.lemmas.Bool.{cases_eq}
use Rattle.std.proofs.lemmas.Slice.{take-put_mid}
use borrow.Rule.Slice.PartMut.{put_mid, mid_of}

-- the part that was written, where it ends the list
pub drop-put_mid_end : {X : Type 0} (a k : ℕ) (xs ys : List X) → length xs ≡ a + k → drop a (put_mid a k xs ys) ≡ ys
drop-put_mid_end a k xs ys whole =
    let past : drop k (drop a xs) ≡ [] = drop_all k (drop a xs) (omega (arith, length-drop a xs)) in
    drop_at (take a xs) (ys ++ drop k (drop a xs)) a (length-take-le a xs (omega arith)) ∙ ap (λ zs. ys ++ zs) past ∙ append-nil ys

pub length-put_mid : {X : Type 0} (a k : ℕ) (xs ys : List X) → a + k ≤ length xs → length ys ≡ k → length (put_mid a k xs ys) ≡ length xs
length-put_mid a k xs ys inside part = search (rules, places)

-- a part that ends the list
pub mid_of-end : {X : Type 0} (a k : ℕ) (xs : List X) → length xs ≡ a + k → mid_of a k xs ≡ drop a xs
mid_of-end a k xs whole = take_all k (drop a xs) (omega (arith, length-drop a xs))

-- two parts written one after the other at the front of a list
pub take-two_parts : {X : Type 0} (a k n : ℕ) (xs ys pad us vs : List X) → n ≡ a + k → length xs ≡ a → length ys ≡ k → xs ≡ us → ys ≡ vs
    → take n (put_mid a k (xs ++ pad) ys) ≡ us ++ vs
take-two_parts a k n xs ys pad us vs total first second same same' =
    take-put_mid a k (xs ++ pad) ys n (omega arith) (omega (arith, length-append xs pad))
    ∙ ap (λ zs. zs ++ ys) (take_at xs pad a first)
    ∙ ap (λ zs. zs ++ ys) same ∙ ap (λ zs. us ++ zs) same'

-- a part written at the end of a list
pub put_mid-last : {X : Type 0} (a k : ℕ) (xs ys pad : List X) → length xs ≡ a → length pad ≡ k → put_mid a k (xs ++ pad) ys ≡ xs ++ ys
put_mid-last a k xs ys pad first last =
    let past : drop k (drop a (xs ++ pad)) ≡ [] =
    drop_all k (drop a (xs ++ pad)) (omega (arith, length-drop a (xs ++ pad), length-append xs pad)) in
    ap (λ zs. zs ++ (ys ++ drop k (drop a (xs ++ pad)))) (take_at xs pad a first) ∙ ap (λ zs. xs ++ (ys ++ zs)) past
    ∙ ap (λ zs. xs ++ zs) (append-nil ys)

-- a message of 55 bytes whose end is written: bytes at 20, a byte at 22, and a value
pub message-filled : (m index value front : List ℕ) (step : ℕ) → length m ≡ 55 → length index ≡ 2 → length value ≡ 32 → take 20 m ≡ front
    → put_mid 23 32 (set (put_mid 20 2 m index) 22 step) value ≡ front ++ index ++ (step ∷ []) ++ value
message-filled m index value front step whole two long begins =
    let named = put_mid 20 2 m index in
    let long-named : length named ≡ 55 = length-put_mid 20 2 m index (omega arith) two ∙ whole in
    let place : take 22 named ≡ front ++ index = take-put_mid 20 2 m index 22 (omega arith) (omega arith) ∙ ap (λ zs. zs ++ index) begins in
    let numbered : take 23 (set named 22 step) ≡ front ++ index ++ (step ∷ []) =
    take_more_set named 22 step (omega arith) ∙ ap (λ zs. zs ++ (step ∷ [])) place in
    let past : drop 32 (drop 23 (set named 22 step)) ≡ [] =
    drop_all 32 (drop 23 (set named 22 step)) (omega (arith, length-drop 23 (set named 22 step), length-set named 22 step)) in
    ap (λ zs. zs ++ (value ++ drop 32 (drop 23 (set named 22 step)))) numbered
    ∙ ap (λ zs. front ++ index ++ (step ∷ []) ++ (value ++ zs)) past
    ∙ ap (λ zs. front ++ index ++ (step ∷ []) ++ zs) (append-nil value)

-- a byte in front of a part that is written at the end of a message
pub step-written : (m value : List ℕ) (step : ℕ) → length m ≡ 55 → slice_index (put_mid 23 32 (set m 22 step) value) 22 ≡ step
step-written m value step whole =
    let xs = set m 22 step in
    let long : 22 < length (take 23 xs) = omega (arith, length-take-le 23 xs (omega (arith, length-set m 22 step)), length-set m 22 step) in
    get_or_append_left (take 23 xs) (value ++ drop 32 (drop 23 xs)) 0 22 long ∙ get_or-take 23 xs 22 0 (omega arith)
    ∙ get_or-set_same m 22 step 0 (omega arith)

-- what holds of each item before one that is set, and of what it is set to, holds up to after it
pub set-more : {X : Type 0} (P : ℕ → X → Type 0) (xs : List X) (i : ℕ) (y d : X) → i < length xs → ((k : ℕ) → k < i → P k (get_or xs k d))
    → P i y
    → (k : ℕ) → k < i + 1 → P k (get_or (set xs i y) k d)
set-more P xs i y d inside before here k below = elim (cases_eq k i) [
  | inl same ↦ subst (λ j. P j (get_or (set xs i y) j d)) (sym same) (subst (P i) (sym (get_or-set_same xs i y d inside)) here)
  | inr other ↦ subst (P k) (sym (get_or-set_other xs i k y d other)) (before k (omega arith))
]
