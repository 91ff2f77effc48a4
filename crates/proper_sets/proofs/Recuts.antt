-- A cut depends only on the set of values, and cutting at each step equals cutting at the end.
use Rattle.std.proofs.Common.{◌≡◌, ℕ, zero, suc, Bool, true, false, not, inl, inr, List, [], ◌∷◌, ◌++◌, take, take-take, refl, sym, ap}
use Rattle.std.proofs.Common.{subst, ◌∙◌, cond, arith}
use Rattle.std.specs.Prelude.{filter}
use Rattle.std.proofs.lemmas.Bool.{false≢true}
use Rattle.ledger_model.specs.Notes.{Has}
use Rattle.ledger_model.specs.Values.{Value, same_value, is_below, with_value, ascending}
use Rattle.ledger_model.specs.Proper.{cut}
use Rattle.ledger_model.specs.Spelling.{are_ascending}
use Rattle.ledger_model.proofs.Lists.{filter_has, has_filter, take_has, with_value_has, has_with_other, ascending_has, has_ascending}
use Rattle.ledger_model.proofs.Lists.{same_value-refl, has_left, has_right, has_cases}
use Rattle.ledger_model.proofs.Below.{ascending_ascends, one_list}
use Rattle.proper_sets.proofs.Orders.{ascending_same, ascending_itself, filter-ascends, take-ascends}

abbrev differs : Value → Value → Bool
differs own v = not (same_value own v)

-- the least three others
abbrev others : Value → List Value → List Value
others own vs = take 3 (filter (differs own) (ascending vs))

-- leaving values out before or after they are put in order
filter_ascending : (p : Value → Bool) (vs : List Value) → filter p (ascending vs) ≡ ascending (filter p vs)
filter_ascending p vs =
    one_list (filter p (ascending vs)) (ascending (filter p vs)) (filter-ascends p (ascending vs) (ascending_ascends vs))
    (ascending_ascends (filter p vs))
    (λ x h. let f = filter_has p (ascending vs) x h in has_ascending (filter p vs) x (has_filter p vs x (ascending_has vs x f.0) f.1))
    (λ x h. let f = filter_has p vs x (ascending_has (filter p vs) x h) in has_filter p (ascending vs) x (has_ascending vs x f.0) f.1)

-- ---- the least n

take_with : (n : ℕ) (v : Value) (ws : List Value) → take n (with_value v (take n ws)) ≡ take n (with_value v ws)
take_with zero v ws = refl
take_with (suc n) v [] = refl
take_with (suc n) v (w ∷ ws) =
    elim (same_value v w) as (λ b. take (suc n)
    (cond b (w ∷ take n ws) (cond (is_below v w) (v ∷ w ∷ take n ws) (w ∷ with_value v (take n ws))))
    ≡ take (suc n) (cond b (w ∷ ws) (cond (is_below v w) (v ∷ w ∷ ws) (w ∷ with_value v ws)))) [
      | true ↦ ap (λ ys. w ∷ ys) (take-take n n ws (omega arith))
      | false ↦ elim (is_below v w) as
          (λ b. take (suc n) (cond b (v ∷ w ∷ take n ws) (w ∷ with_value v (take n ws)))
          ≡ take (suc n) (cond b (v ∷ w ∷ ws) (w ∷ with_value v ws))) [
            | true ↦ ap (λ ys. v ∷ ys) (take-take n (suc n) (w ∷ ws) (omega arith))
            | false ↦ ap (λ ys. w ∷ ys) (take_with n v ws)
          ]
    ]

-- the values of a list put into another one
abbrev put_in : List Value → List Value → List Value
put_in [] ws = ws
put_in (v ∷ vs) ws = with_value v (put_in vs ws)

take_put_in : (n : ℕ) (vs ws : List Value) → take n (put_in vs (take n ws)) ≡ take n (put_in vs ws)
take_put_in n [] ws = take-take n n ws (omega arith)
take_put_in n (v ∷ vs) ws =
    sym (take_with n v (put_in vs (take n ws))) ∙ ap (λ xs. take n (with_value v xs)) (take_put_in n vs ws) ∙ take_with n v (put_in vs ws)

ascending-append : (vs ws : List Value) → ascending (vs ++ ws) ≡ put_in vs (ascending ws)
ascending-append [] ws = refl
ascending-append (v ∷ vs) ws = ap (with_value v) (ascending-append vs ws)

-- ---- cuts

pub cut_same : (own : Value) (vs ws : List Value) → ((x : Value) → Has vs x → Has ws x) → ((x : Value) → Has ws x → Has vs x)
    → cut own vs ≡ cut own ws
cut_same own vs ws f g = ap (λ xs. with_value own (take 3 (filter (differs own) xs))) (ascending_same vs ws f g)

-- the least three others of some values and more, and of their least three others and more
others_again : (own : Value) (vs ws : List Value) → others own (cut own vs ++ ws) ≡ others own (vs ++ ws)
others_again own vs ws =
    let kept = filter (differs own) vs in
    let more = filter (differs own) ws in
    let least = take 3 (ascending kept) in
    let least_is : others own vs ≡ least = ap (take 3) (filter_ascending (differs own) vs) in
    let least_ascends : are_ascending least ≡ true = take-ascends 3 (ascending kept) (ascending_ascends kept) in
    let before : ascending (filter (differs own) (cut own vs ++ ws)) ≡ ascending (more ++ least) =
    ascending_same (filter (differs own) (cut own vs ++ ws)) (more ++ least)
    (λ x h. let f = filter_has (differs own) (cut own vs ++ ws) x h in
    elim (has_cases (cut own vs) ws x f.0) [
      | inl c ↦ elim (with_value_has own (others own vs) x c) [
        | inl e ↦ (let same : same_value own x ≡ true =
            subst (λ y. same_value own y ≡ true) e (same_value-refl own) in absurd (false≢true (sym (ap not same) ∙ f.1)))
        | inr o ↦ has_right more least x (subst (λ xs. Has xs x) least_is o)
      ]
      | inr w ↦ has_left more least x (has_filter (differs own) ws x w f.1)
    ])
    (λ x h. elim (has_cases more least x h) [
      | inl m ↦ let f = filter_has (differs own) ws x m
          in has_filter (differs own) (cut own vs ++ ws) x (has_right (cut own vs) ws x f.0) f.1
      | inr l ↦
          let o : Has (others own vs) x = subst (λ xs. Has xs x) (sym least_is) l in
          let f = filter_has (differs own) (ascending vs) x (take_has 3 (filter (differs own) (ascending vs)) x o) in
          has_filter (differs own) (cut own vs ++ ws) x (has_left (cut own vs) ws x (has_with_other own (others own vs) x o)) f.1
    ]) in
    let after : ascending (filter (differs own) (vs ++ ws)) ≡ ascending (more ++ kept) =
    ascending_same (filter (differs own) (vs ++ ws)) (more ++ kept)
    (λ x h. let f = filter_has (differs own) (vs ++ ws) x h in
    elim (has_cases vs ws x f.0) [
      | inl v ↦ has_right more kept x (has_filter (differs own) vs x v f.1)
      | inr w ↦
          has_left more kept x (has_filter (differs own) ws x w f.1)
    ])
    (λ x h. elim (has_cases more kept x h) [
      | inl m ↦ let f = filter_has (differs own) ws x m in has_filter (differs own) (vs ++ ws) x (has_right vs ws x f.0) f.1
      | inr k ↦ let f = filter_has (differs own) vs x k in has_filter (differs own) (vs ++ ws) x (has_left vs ws x f.0) f.1
    ]) in
    ap (take 3) (filter_ascending (differs own) (cut own vs ++ ws) ∙ before ∙ ascending-append more least
    ∙ ap (put_in more) (ascending_itself least least_ascends))
    ∙ take_put_in 3 more (ascending kept)
    ∙ ap (take 3) (sym (ascending-append more kept) ∙ sym after ∙ sym (filter_ascending (differs own) (vs ++ ws)))

pub cut_again : (own : Value) (vs ws : List Value) → cut own (cut own vs ++ ws) ≡ cut own (vs ++ ws)
cut_again own vs ws = ap (with_value own) (others_again own vs ws)
