-- The least value found one by one is the first of the ascending list.
use Rattle.std.proofs.Common.{◌≡◌, Bool, true, false, inl, inr, List, [], ◌∷◌, ◌++◌, refl, sym, ap}
use Rattle.std.proofs.Common.{subst, ◌∙◌}
use Rattle.std.specs.Prelude.{filter, Option, Some, None, if◌then◌else◌}
use Rattle.std.proofs.lemmas.Bool.{false≢true, and_parts, and_from, cases_Bool}
use Rattle.ledger_model.specs.Values.{Value, same_value, is_below, with_value, ascending}
use Rattle.ledger_model.specs.Spelling.{are_ascending}
use Rattle.phase_core.specs.Choices.{first_value}
use Rattle.ledger_model.specs.Notes.{Has}
use Rattle.ledger_model.proofs.Lists.{same_value-refl, same_value-equal, has_ascending, ascending_has}
use Rattle.ledger_model.proofs.Below.{below_trans, below_itself, below_other, below_or, ascending_ascends, tail_ascends, one_list}
use Rattle.phase_core.specs.Least.{least_with, least_of}

-- the lesser of two that may be there
abbrev least_both : Option Value → Option Value → Option Value
least_both found None = found
least_both found (Some v) = least_with found v

-- the same step in both orders
both_orders : (found : Option Value) (v : Value) (b : Option Value)
    → least_both (least_with found v) b ≡ least_both found (least_both (Some v) b)
both_orders None v None = refl
both_orders None v (Some u) = elim (cases_Bool (is_below u v)) [ inl e ↦ simp e refl | inr e ↦ simp e refl ]
both_orders (Some w) v None = refl
both_orders (Some w) v (Some u) =
    elim (cases_Bool (is_below v w)) [
      | inl v_first ↦ elim (cases_Bool (is_below u v)) [
        | inl u_first ↦ (let e = below_trans u v w u_first v_first in simp (v_first, u_first, e) refl)
        | inr u_later ↦ simp (v_first, u_later, v_first) refl
      ]
      | inr v_later ↦ elim (cases_Bool (is_below u v)) [
        | inl u_first ↦ simp (v_later, u_first) refl
        | inr u_later ↦ (let e = not_first w v u v_later u_later in simp (v_later, u_later, e, v_later) refl)
      ]
    ]
  where
    -- u is not below v, nor v below w: then u is not below w
    not_first : (w v u : Value) → is_below v w ≡ false → is_below u v ≡ false → is_below u w ≡ false
    not_first w v u a b =
        elim (cases_Bool (is_below u w)) [
          | inr e ↦ e
          | inl e ↦ elim (cases_Bool (same_value v w)) [
            | inl same ↦ absurd (false≢true (sym b ∙ ap (is_below u) (same_value-equal v w same) ∙ e))
            | inr other ↦ absurd (false≢true (sym b ∙ below_trans u w v e (below_or v w other a)))
          ]
        ]

-- the first that passes of a list that w stands below is above w
above : (test : Value → Bool) (w : Value) (ws : List Value) (u : Value) → are_ascending (w ∷ ws) ≡ true
    → first_value (filter test ws) ≡ Some u → is_below w u ≡ true
above test w [] u h e = cc
above test w (x ∷ xs) u h e =
    let parts = and_parts (is_below w x) (are_ascending (x ∷ xs)) h in
    elim (cases_Bool (test x)) [
      | inl passes ↦ (let g : Some x ≡ Some u = simp passes at e in let same : x ≡ u =
          cc in subst (λ y. is_below w y ≡ true) same (parts.0))
      | inr fails ↦ (let g : first_value (filter test xs) ≡ Some u =
          simp fails at e in below_trans w x u (parts.0) (above test x xs u (parts.1) g))
    ]

-- the lesser of v and what follows v is v
first_stays : (v : Value) (b : Option Value) → ((u : Value) → b ≡ Some u → is_below v u ≡ true) → Some v ≡ least_both (Some v) b
first_stays v None h = refl
first_stays v (Some u) h = let e = below_other v u (h u refl) in simp e refl

-- the first that passes
abbrev first_passing : (Value → Bool) → List Value → Option Value
first_passing test ws = first_value (filter test ws)

-- what the first that passes becomes once v is there too
abbrev first_with_too : (Value → Bool) → Value → List Value → Option Value
first_with_too test v ws = if test v then least_both (Some v) (first_passing test ws) else first_passing test ws

in_place : (test : Value → Bool) (v : Value) (ws : List Value) → first_passing test (with_value v (v ∷ ws)) ≡ first_with_too test v (v ∷ ws)
in_place test v ws =
    let same = same_value-refl v in
    let itself = below_itself v in
    elim (cases_Bool (test v)) [ inl e ↦ simp (same, e, itself) refl | inr e ↦ simp (same, e) refl ]

in_front : (test : Value → Bool) (v w : Value) (ws : List Value) → same_value v w ≡ false → is_below v w ≡ true
    → are_ascending (w ∷ ws) ≡ true
    → first_passing test (with_value v (w ∷ ws)) ≡ first_with_too test v (w ∷ ws)
in_front test v w ws other below h =
    elim (cases_Bool (test v)) [
      | inl e ↦ simp (other, below, e)
          (first_stays v (first_passing test (w ∷ ws))
          (λ u g. above test v (w ∷ ws) u (and_from (is_below v w) (are_ascending (w ∷ ws)) below h) g))
      | inr e ↦ simp (other, below, e) refl
    ]

behind : (test : Value → Bool) (v w : Value) (ws : List Value) → same_value v w ≡ false → is_below v w ≡ false
    → first_passing test (with_value v ws) ≡ first_with_too test v ws
    → first_passing test (with_value v (w ∷ ws)) ≡ first_with_too test v (w ∷ ws)
behind test v w ws other later rest =
    let back = below_or v w other later in
    elim (cases_Bool (test w)) [
      | inl e ↦ elim (cases_Bool (test v)) [ inl f ↦ simp (other, later, e, f, back) refl | inr f ↦ simp (other, later, e, f) refl ]
      | inr e ↦ simp (other, later, e) rest
    ]

-- the first that passes of an ascending list, once v is in it
first_with : (test : Value → Bool) (v : Value) (ws : List Value) → are_ascending ws ≡ true
    → first_passing test (with_value v ws) ≡ first_with_too test v ws
first_with test v [] h = elim (cases_Bool (test v)) [ inl e ↦ simp e refl | inr e ↦ simp e refl ]
first_with test v (w ∷ ws) h =
    elim (cases_Bool (same_value v w)) [
      | inl same ↦ subst (λ x. first_passing test (with_value v (x ∷ ws)) ≡ first_with_too test v (x ∷ ws)) (same_value-equal v w same)
          (in_place test v ws)
      | inr other ↦ elim (cases_Bool (is_below v w)) [
        | inl below ↦ in_front test v w ws other below h
        | inr later ↦ behind test v w ws other later (first_with test v ws (tail_ascends w ws h))
      ]
    ]

-- the least found one by one is the first that passes of the ascending list
pub least_is_first : (test : Value → Bool) (found : Option Value) (vs : List Value)
    → least_of test found vs ≡ least_both found (first_passing test (ascending vs))
least_is_first test found [] = refl
least_is_first test found (v ∷ vs) =
    let first = first_with test v (ascending vs) (ascending_ascends vs) in
    elim (cases_Bool (test v)) [
      | inl e ↦ (let g : first_passing test (with_value v (ascending vs)) ≡ least_both (Some v) (first_passing test (ascending vs)) =
          simp e at first in
          simp e (least_is_first test (least_with found v) vs ∙ both_orders found v (first_passing test (ascending vs))
          ∙ ap (least_both found) (sym g)))
      | inr e ↦ (let g : first_passing test (with_value v (ascending vs)) ≡ first_passing test (ascending vs) = simp e at first in
          simp e (least_is_first test found vs ∙ ap (least_both found) (sym g)))
    ]

-- as many lists as one
pub least_of-append : (test : Value → Bool) (found : Option Value) (vs ws : List Value)
    → least_of test found (vs ++ ws) ≡ least_of test (least_of test found vs) ws
least_of-append test found [] ws = refl
least_of-append test found (v ∷ vs) ws = least_of-append test (if test v then least_with found v else found) vs ws

-- the first of all is the least of all
pub least_from_none : (test : Value → Bool) (vs : List Value) → least_of test None vs ≡ first_passing test (ascending vs)
least_from_none test vs = least_is_first test None vs ∙ none_both (first_passing test (ascending vs))
  where
    none_both : (b : Option Value) → least_both None b ≡ b
    none_both None = refl
    none_both (Some v) = refl

-- which values there are says which is the least
pub least_same : (test : Value → Bool) (vs ws : List Value) → ((x : Value) → Has vs x → Has ws x) → ((x : Value) → Has ws x → Has vs x)
    → least_of test None vs ≡ least_of test None ws
least_same test vs ws f g =
    least_from_none test vs
    ∙ ap (first_passing test)
    (one_list (ascending vs) (ascending ws) (ascending_ascends vs) (ascending_ascends ws)
    (λ x h. has_ascending ws x (f x (ascending_has vs x h))) (λ x h. has_ascending vs x (g x (ascending_has ws x h))))
    ∙ sym (least_from_none test ws)
