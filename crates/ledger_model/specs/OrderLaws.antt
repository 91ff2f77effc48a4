-- The orders of `Order` are total, and return `Equal` only for equal values. The laws of `Ord` cite these.
use Rattle.std.proofs.Common.{◌≡◌, ℕ, Bool, true, List, [], ◌∷◌, ◌++◌, length, refl, sym, ap, ◌∙◌}
use Rattle.std.specs.Prelude.{nat_eq, pred}
use Rattle.std.specs.List.{flat_map}
use Rattle.std.specs.declared.cmp.Ordering.{Ordering}
use Rattle.std.specs.declared.cmp.Ordering.TheVariants.{Less, Equal, Greater}
use Rattle.std.specs.Ordering.{nat_cmp, is_eq, as_partial_cmp, eq_by_cmp, ordering_then}
use Rattle.std.specs.Cmp.{IsTotalOrder, IsPartialOrder, IsEquivalence, on_total, po, tied_itself, both_ways, nat_cmp_total, unsigned_tied}
use Rattle.std.specs.Cmp.{unsigned_ties}
use Rattle.std.specs.Cmp.Lexicographic.{slice_cmp, pointwise, as_long, nat_list_cmp_total, nat_list_eq_equiv, lists_equiv, lists_ties}
use Rattle.std.proofs.Math.Nat.{suc-ne-zero}
use Rattle.std.proofs.lemmas.Bool.{false≢true, eqb-true}
use Rattle.ledger_model.specs.Values.{Value, value_bytes, same_value}
use Rattle.ledger_model.specs.Order.{tx_bytes, tx_cmp, value_cmp}

-- the order of transactions is total
pub tx_total : IsTotalOrder tx_cmp
tx_total = on_total tx_bytes nat_list_cmp_total

-- the order of values is total
pub value_total : IsTotalOrder value_cmp
value_total = on_total value_bytes nat_list_cmp_total

-- `same_value` is an equivalence
pub same_value-equiv : IsEquivalence same_value
same_value-equiv = lists_equiv nat_list_eq_equiv

-- ---- which part of two encodings decides

then_assoc : (o p q : Ordering) → ordering_then o (ordering_then p q) ≡ ordering_then (ordering_then o p) q
then_assoc Less p q = refl
then_assoc Equal p q = refl
then_assoc Greater p q = refl

-- what follows a tie matters only if there is a tie
after_tie : (o p q : Ordering) → (o ≡ Equal → p ≡ q) → ordering_then o p ≡ ordering_then o q
after_tie Less p q h = refl
after_tie Equal p q h = h refl
after_tie Greater p q h = refl

-- numbers that are tied are equal
tied_equal : (m n : ℕ) → nat_cmp m n ≡ Equal → m ≡ n
tied_equal m n e = eqb-true m n (sym (unsigned_tied m n) ∙ ap is_eq e)

-- two lists whose fronts have the same length: the fronts decide, and if they tie, the rest does
fronts_first : (xs ys rest more : List ℕ) → length xs ≡ length ys
    → slice_cmp nat_cmp (xs ++ rest) (ys ++ more) ≡ ordering_then (slice_cmp nat_cmp xs ys) (slice_cmp nat_cmp rest more)
fronts_first [] [] rest more e = refl
fronts_first [] (y ∷ ys) rest more e = absurd (suc-ne-zero (length ys) (sym e))
fronts_first (x ∷ xs) [] rest more e = absurd (suc-ne-zero (length xs) e)
fronts_first (x ∷ xs) (y ∷ ys) rest more e =
    ap (ordering_then (nat_cmp x y)) (fronts_first xs ys rest more (ap pred e))
    ∙ then_assoc (nat_cmp x y) (slice_cmp nat_cmp xs ys) (slice_cmp nat_cmp rest more)

-- for the same number of transactions, the first transaction that differs decides
in_turn : (v w : Value) → length v ≡ length w → slice_cmp nat_cmp (flat_map tx_bytes v) (flat_map tx_bytes w) ≡ slice_cmp tx_cmp v w
in_turn [] [] e = refl
in_turn [] (y ∷ w) e = absurd (suc-ne-zero (length w) (sym e))
in_turn (x ∷ v) [] e = absurd (suc-ne-zero (length v) e)
in_turn (x ∷ v) (y ∷ w) e =
    after_tie (nat_cmp (length x) (length y)) (slice_cmp nat_cmp (x ++ flat_map tx_bytes v) (y ++ flat_map tx_bytes w))
    (ordering_then (slice_cmp nat_cmp x y) (slice_cmp tx_cmp v w))
    (λ tie. fronts_first x y (flat_map tx_bytes v) (flat_map tx_bytes w) (tied_equal (length x) (length y) tie)
    ∙ ap (ordering_then (slice_cmp nat_cmp x y)) (in_turn v w (ap pred e)))
    ∙ then_assoc (nat_cmp (length x) (length y)) (slice_cmp nat_cmp x y) (slice_cmp tx_cmp v w)

-- the byte order of encodings: the number of transactions decides, and if they tie, the first transaction that differs
pub value_cmp-parts : (v w : Value) → value_cmp v w ≡ ordering_then (nat_cmp (length v) (length w)) (slice_cmp tx_cmp v w)
value_cmp-parts v w =
    after_tie (nat_cmp (length v) (length w)) (slice_cmp nat_cmp (flat_map tx_bytes v) (flat_map tx_bytes w)) (slice_cmp tx_cmp v w)
    (λ tie. in_turn v w (tied_equal (length v) (length w) tie))

-- ---- what is tied is equal

second_tied : (o p : Ordering) → is_eq (ordering_then o p) ≡ true → is_eq p ≡ true
second_tied Less p e = absurd (false≢true e)
second_tied Equal p e = e
second_tied Greater p e = absurd (false≢true e)

-- comparing lengths and then elements distinguishes lists just as E does, if R distinguishes elements just as E does
lengths_first : {K : Type 0} (E : K → K → Bool) (R : K → K → Ordering) → ((x y : K) → E x y ≡ eq_by_cmp R x y) → (xs ys : List K)
    → pointwise E xs ys ≡ is_eq (ordering_then (nat_cmp (length xs) (length ys)) (slice_cmp R xs ys))
lengths_first E R ties xs ys =
    both_ways (pointwise E xs ys) (is_eq (ordering_then (nat_cmp (length xs) (length ys)) (slice_cmp R xs ys)))
    (λ e. ap (λ (o : Ordering). is_eq (ordering_then o (slice_cmp R xs ys)))
    (ap (nat_cmp (length xs)) (sym (as_long E xs ys e)) ∙ tied_itself nat_cmp_total (length xs))
    ∙ sym (lists_ties R ties xs ys) ∙ e)
    (λ e. lists_ties R ties xs ys ∙ second_tied (nat_cmp (length xs) (length ys)) (slice_cmp R xs ys) e)

-- two transactions tie exactly if their bytes are equal
pub tx_ties : (x y : List ℕ) → pointwise nat_eq x y ≡ is_eq (tx_cmp x y)
tx_ties = lengths_first nat_eq nat_cmp unsigned_ties

-- two values tie exactly if they are the same
pub value_ties : (v w : Value) → same_value v w ≡ is_eq (value_cmp v w)
value_ties v w = lengths_first (pointwise nat_eq) tx_cmp tx_ties v w ∙ ap is_eq (sym (value_cmp-parts v w))

-- the order of transactions, as a partial order, compares any two
pub tx_partial : IsPartialOrder (pointwise nat_eq) (as_partial_cmp tx_cmp)
tx_partial = po tx_total tx_ties

-- the order of values, as a partial order, compares any two
pub value_partial : IsPartialOrder same_value (as_partial_cmp value_cmp)
value_partial = po value_total value_ties
