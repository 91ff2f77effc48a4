-- How many elements of a list pass a test.
use Rattle.std.proofs.Common.{◌≡◌, suc, ◌+◌, Bool, true, false, inl, inr, List, [], ◌∷◌, ◌++◌, length, refl, ap, ◌∙◌, cond}
use Rattle.std.proofs.Common.{length-append}
use Rattle.std.specs.Prelude.{map, filter}
use Rattle.std.specs.List.{list_any}
use Rattle.std.proofs.lemmas.Bool.{cases_Bool}
use Rattle.std.proofs.lemmas.List.Elements.{filter-append}
use Rattle.ledger_model.specs.Notes.{Has}
use Rattle.tally.specs.Tallies.{count_where}

pub count_where-map : {X Y : Type 0} (f : X → Y) (test : Y → Bool) (xs : List X)
    → count_where test (map f xs) ≡ count_where (λ x. test (f x)) xs
count_where-map f test [] = refl
count_where-map f test (x ∷ xs) =
    let rest = count_where-map f test xs in
    elim (test (f x)) as (λ b. length (cond b (f x ∷ filter test (map f xs)) (filter test (map f xs)))
    ≡ length (cond b (x ∷ filter (λ y. test (f y)) xs) (filter (λ y. test (f y)) xs))) [
      | true ↦ ap suc rest
      | false ↦ rest
    ]

pub count_where-append : {X : Type 0} (test : X → Bool) (xs ys : List X)
    → count_where test (xs ++ ys) ≡ count_where test xs + count_where test ys
count_where-append test xs ys = ap length (filter-append test xs ys) ∙ length-append (filter test xs) (filter test ys)

-- tests that agree on each element count as many
pub count_where-same : {X : Type 0} (p q : X → Bool) (xs : List X) → ((x : X) → Has xs x → p x ≡ q x) → count_where p xs ≡ count_where q xs
count_where-same p q [] same = refl
count_where-same p q (x ∷ xs) same =
    let rest = count_where-same p q xs (λ y has. same y (inr has)) in
    (λ i. length (cond (same x (inl refl) i) (x ∷ filter p xs) (filter p xs)))
    ∙ elim (q x) as (λ b. length (cond b (x ∷ filter p xs) (filter p xs)) ≡ length (cond b (x ∷ filter q xs) (filter q xs))) [
      | true ↦ ap suc rest
      | false ↦ rest
    ]

-- none counts if none passes
pub count_where-none : {X : Type 0} (test : X → Bool) (xs : List X) → list_any test xs ≡ false → count_where test xs ≡ 0
count_where-none test [] none = refl
count_where-none test (x ∷ xs) none =
    elim (cases_Bool (test x)) [
      | inl passes ↦ (let some : true ≡ false = simp passes at none in cc)
      | inr fails ↦ (let rest : list_any test xs ≡ false = simp fails at none in simp fails (count_where-none test xs rest))
    ]
