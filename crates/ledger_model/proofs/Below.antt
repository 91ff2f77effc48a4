-- The order of values is strict and total, and what sorts values.
use Rattle.std.proofs.Common.{◌≡◌, true, false, inl, inr, List, [], ◌∷◌, refl, sym, ap, subst, ◌∙◌}
use Rattle.std.specs.declared.cmp.Ordering.{Ordering}
use Rattle.std.specs.declared.cmp.Ordering.TheVariants.{Less, Equal, Greater}
use Rattle.std.specs.Ordering.{is_lt, is_eq, ordering_reverse}
use Rattle.std.specs.Cmp.{tied_itself}
use Rattle.std.proofs.lemmas.Bool.{false≢true, and_parts, and_from, cases_Bool}
use Rattle.ledger_model.specs.Notes.{Has}
use Rattle.ledger_model.specs.Values.{Value, same_value, is_below, with_value, ascending}
use Rattle.ledger_model.specs.Order.{value_cmp}
use Rattle.ledger_model.specs.OrderLaws.{value_total, value_ties}
use Rattle.ledger_model.specs.Spelling.{are_ascending}

is_less : (o : Ordering) → is_lt o ≡ true → o ≡ Less
is_less Less e = refl
is_less Equal e = absurd (false≢true e)
is_less Greater e = absurd (false≢true e)

less : (v w : Value) → is_below v w ≡ true → value_cmp v w ≡ Less
less v w e = is_less (value_cmp v w) e

pub below_trans : (u v w : Value) → is_below u v ≡ true → is_below v w ≡ true → is_below u w ≡ true
below_trans u v w e f = ap is_lt (value_total.trans u v w (less u v e) (less v w f))

pub below_itself : (v : Value) → is_below v v ≡ false
below_itself v = ap is_lt (tied_itself value_total v)

pub below_differs : (v w : Value) → is_below v w ≡ true → same_value v w ≡ false
below_differs v w below = value_ties v w ∙ ap is_eq (less v w below)

-- where v stands to w
pub data Side (v w : Value) : Type 0 where
  Same : same_value v w ≡ true → is_below w v ≡ false → Side v w
  Below : same_value v w ≡ false → is_below v w ≡ true → is_below w v ≡ false → Side v w
  Above : same_value v w ≡ false → is_below v w ≡ false → is_below w v ≡ true → Side v w

-- where it stands, by what the comparison answers
side_of : (v w : Value) (o : Ordering) → value_cmp v w ≡ o → Side v w
side_of v w Less e =
    Below (value_ties v w ∙ ap is_eq e) (ap is_lt e) (ap is_lt (value_total.antisymm w v) ∙ ap (λ o. is_lt (ordering_reverse o)) e)
side_of v w Equal e =
    Same (value_ties v w ∙ ap is_eq e) (ap is_lt (value_total.antisymm w v) ∙ ap (λ o. is_lt (ordering_reverse o)) e)
side_of v w Greater e =
    Above (value_ties v w ∙ ap is_eq e) (ap is_lt e) (ap is_lt (value_total.antisymm w v) ∙ ap (λ o. is_lt (ordering_reverse o)) e)

pub side : (v w : Value) → Side v w
side v w = side_of v w (value_cmp v w) refl

pub below_other : (v w : Value) → is_below v w ≡ true → is_below w v ≡ false
below_other v w e = elim (side v w) [ Same a b ↦ b | Below a b c ↦ c | Above a b c ↦ absurd (false≢true (sym b ∙ e)) ]

pub below_or : (v w : Value) → same_value v w ≡ false → is_below v w ≡ false → is_below w v ≡ true
below_or v w e f = elim (side v w) [
  | Same a b ↦ absurd (false≢true (sym e ∙ a))
  | Below a b c ↦
      absurd (false≢true (sym f ∙ b))
  | Above a b c ↦ c
]

-- ---- what `with_value` and `ascending` give ascends

-- w below v, and in front of a list that ascends: w stands below what the list has once v is in it
before_with : (w v : Value) (ws : List Value) → is_below w v ≡ true → are_ascending (w ∷ ws) ≡ true
    → are_ascending (with_value v ws) ≡ true → are_ascending (w ∷ with_value v ws) ≡ true
before_with w v [] lt h rest = and_from (is_below w v) true lt refl
before_with w v (x ∷ xs) lt h rest =
    elim (cases_Bool (same_value v x)) [
      | inl same ↦ simp same h
      | inr other ↦ elim (cases_Bool (is_below v x)) [
        | inl below ↦ simp (other, below, lt) ((and_parts (is_below w x) (are_ascending (x ∷ xs)) h).1)
        | inr above ↦ (let g : are_ascending (x ∷ with_value v xs) ≡ true =
            simp (other, above) at rest in simp (other, above)
            (and_from (is_below w x) (are_ascending (x ∷ with_value v xs)) ((and_parts (is_below w x) (are_ascending (x ∷ xs)) h).0) g))
      ]
    ]

pub tail_ascends : (w : Value) (ws : List Value) → are_ascending (w ∷ ws) ≡ true → are_ascending ws ≡ true
tail_ascends w [] h = refl
tail_ascends w (x ∷ xs) h = (and_parts (is_below w x) (are_ascending (x ∷ xs)) h).1

pub with_value_ascends : (v : Value) (ws : List Value) → are_ascending ws ≡ true → are_ascending (with_value v ws) ≡ true
with_value_ascends v [] h = refl
with_value_ascends v (w ∷ ws) h =
    elim (cases_Bool (same_value v w)) [
      | inl same ↦ simp same h
      | inr other ↦ elim (cases_Bool (is_below v w)) [
        | inl below ↦ simp (other, below) h
        | inr above ↦ simp (other, above) (before_with w v ws (below_or v w other above) h (with_value_ascends v ws (tail_ascends w ws h)))
      ]
    ]

pub ascending_ascends : (vs : List Value) → are_ascending (ascending vs) ≡ true
ascending_ascends [] = refl
ascending_ascends (v ∷ vs) = with_value_ascends v (ascending vs) (ascending_ascends vs)

-- ---- which values an ascending list has

pub above_all : (v : Value) (vs : List Value) → are_ascending (v ∷ vs) ≡ true → (w : Value) → Has vs w → is_below v w ≡ true
above_all v [] a w h = absurd h
above_all v (x ∷ xs) a w (inl e) = subst (λ y. is_below v y ≡ true) e ((and_parts (is_below v x) (are_ascending (x ∷ xs)) a).0)
above_all v (x ∷ xs) a w (inr h) =
    let parts = and_parts (is_below v x) (are_ascending (x ∷ xs)) a in
    below_trans v x w parts.0 (above_all x xs parts.1 w h)

not_below_itself : (v : Value) → is_below v v ≡ true → ⊥
not_below_itself v a = false≢true (sym (below_itself v) ∙ a)

-- lists that ascend and have the same values are one
pub one_list : (vs ws : List Value) → are_ascending vs ≡ true → are_ascending ws ≡ true
    → ((x : Value) → Has vs x → Has ws x) → ((x : Value) → Has ws x → Has vs x) → vs ≡ ws
one_list [] [] a b f g = refl
one_list [] (w ∷ ws) a b f g = absurd (g w (inl refl))
one_list (v ∷ vs) [] a b f g = absurd (f v (inl refl))
one_list (v ∷ vs) (w ∷ ws) a b f g =
    let first : v ≡ w = elim (f v (inl refl)) [
      | inl e ↦ sym e
      | inr h ↦ elim (g w (inl refl)) [
        | inl e ↦ e
        | inr k ↦ absurd (not_below_itself v (below_trans v w v (above_all v vs a w k) (above_all w ws b v h)))
      ]
    ] in
    let rest : vs ≡ ws = one_list vs ws (tail_ascends v vs a) (tail_ascends w ws b)
    (λ x h. elim (f x (inr h)) [
      | inl e ↦
          absurd (not_below_itself v (subst (λ y. is_below v y ≡ true) (sym e ∙ sym first) (above_all v vs a x h)))
      | inr k ↦ k
    ])
    (λ x h. elim (g x (inr h)) [
      | inl e ↦
          absurd (not_below_itself w (subst (λ y. is_below w y ≡ true) (sym e ∙ first) (above_all w ws b x h)))
      | inr k ↦ k
    ]) in
    cc
