-- A text to which pieces are appended one by one.
use Rattle.std.proofs.Common.{◌≡◌, ◌∙◌, ℕ, List, [], ◌∷◌, ◌++◌, sym, ap, append_assoc, append-nil, ◌+◌, ◌-◌, ◌<◌, ◌≤◌, zero, suc, length}
use Rattle.std.proofs.Common.{drop, get_or, arith, refl, subst}
use Rattle.std.specs.Prelude.{Result, OnOk}
use Rattle.std.specs.List.{flat_map}
use Rattle.std.proofs.Math.ListN.{drop_of_length-le}
use Rattle.ledger_model.proofs.Items.{drop_item}
use Rattle.run_picture.proofs.Orders.{one_more, no_more}
use Rattle.run_picture.specs.Xml.{concatenated}

-- the pieces are appended one by one
abbrev pub Appended : List ℕ → List (List ℕ) → List ℕ → Type 0
Appended out [] end = end ≡ out
Appended out (p ∷ ps) end = (next : List ℕ) × ((next ≡ out ++ p) × Appended next ps end)

-- the pieces are then appended as one text
pub appended_joined : (out : List ℕ) (ps : List (List ℕ)) (end : List ℕ) → Appended out ps end → end ≡ out ++ concatenated ps
appended_joined out [] end is = is ∙ sym (append-nil out)
appended_joined out (p ∷ []) end done = done.1.1 ∙ done.1.0
appended_joined out (p ∷ q ∷ ps) end done =
    appended_joined done.0 (q ∷ ps) end done.1.1 ∙ ap (λ l. l ++ concatenated (q ∷ ps)) done.1.0 ∙ append_assoc out p (concatenated (q ∷ ps))

-- the same of three pieces, if the last was appended
pub three_joined : {T E : Type 0} (r : Result T E) (out p q l first second end : List ℕ) → first ≡ out ++ p → second ≡ first ++ q
    → OnOk r (end ≡ second ++ l) → OnOk r (end ≡ out ++ concatenated (p ∷ q ∷ l ∷ []))
three_joined r out p q l first second end first_is second_is last =
    subst (λ t. OnOk r (end ≡ t)) (appended_joined out (p ∷ q ∷ l ∷ []) (second ++ l)
    (first, (first_is, (second, (second_is, (second ++ l, (refl, refl))))))) last

-- ---- what each element of a list adds

-- the text of one element more is appended
pub each_next : {X : Type 0} (f : X → List ℕ) (xs : List X) (i : ℕ) (x : X) (out next start : List ℕ) → i < length xs → x ≡ get_or xs i x
    → out ++ flat_map f (drop i xs) ≡ start ++ flat_map f xs → next ≡ out ++ f x
    → next ++ flat_map f (drop (i + 1) xs) ≡ start ++ flat_map f xs
each_next f xs i x out next start inside is before now =
    one_more out next start (f x) (flat_map f (drop (i + 1) xs)) (flat_map f xs)
    (sym (ap (λ ys. out ++ flat_map f ys) (drop_item xs i x inside is)) ∙ before) now

-- no element is left
pub each_last : {X : Type 0} (f : X → List ℕ) (xs : List X) (i : ℕ) (out start : List ℕ) → length xs ≤ i
    → out ++ flat_map f (drop i xs) ≡ start ++ flat_map f xs → out ≡ start ++ flat_map f xs
each_last f xs i out start over before = no_more out start (flat_map f (drop i xs)) (flat_map f xs) before
    (ap (flat_map f) (drop_of_length-le xs over))

-- ---- what each of n numbers adds

-- the rest of the numbers below n has one fewer after the next
pub rest_of : (n r : ℕ) → r < n → n - r ≡ suc (n - (r + 1))
rest_of n r b = omega arith

pub none_left : (n r : ℕ) → n ≤ r → n - r ≡ zero
none_left n r b = omega arith
