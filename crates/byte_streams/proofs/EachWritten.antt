-- The texts of items, written one after the other.
use Rattle.std.proofs.Common.{◌≡◌, ℕ, ◌+◌, ◌<◌, List, [], ◌∷◌, ◌++◌, length, get_or, take, drop, suc, sym, ap, subst, ◌∙◌, append-nil}
use Rattle.std.proofs.Common.{arith}
use Rattle.std.proofs.Common.{take-append-drop}
use Rattle.std.specs.Prelude.{Option}
use Rattle.std.specs.List.{flat_map}
use Rattle.std.proofs.Math.Seq.{take-suc}
use Rattle.std.proofs.lemmas.List.Concat.{flat_map-append}
use Rattle.std.specs.Io.KnownBytes.{Appends}
use Rattle.byte_streams.specs.Writing.{AppendsSome}
use Rattle.byte_streams.proofs.WritingLemmas.{all_some, longer_some, then_some}

-- one item more, and then the others
pub and_others : {X : Type 0} (xs : List X) (i : ℕ) (x : X) → i < length xs → x ≡ get_or xs i x
    → (take i xs ++ x ∷ []) ++ drop (i + 1) xs ≡ xs
and_others xs i x within is =
    let after : suc i ≡ i + 1 = omega arith in
    ap (λ y. (take i xs ++ y ∷ []) ++ drop (i + 1) xs) is
    ∙ ap (λ l. l ++ drop (i + 1) xs) (sym (take-suc xs i x within) ∙ ap (λ k. take k xs) after) ∙ take-append-drop (i + 1) xs

module _ {X : Type 0} (f : X → List ℕ) (xs : List X) (i : ℕ) (a b : Option (List ℕ)) (written : Appends a b (flat_map f (take i xs))) where
  -- the texts of the first items begin the texts of all
  pub first_some : AppendsSome a b (flat_map f xs)
  first_some =
      subst (AppendsSome a b) (sym (flat_map-append f (take i xs) (drop i xs)) ∙ ap (flat_map f) (take-append-drop i xs))
      (longer_some a b (flat_map f (take i xs)) (flat_map f (drop i xs)) (all_some a b (flat_map f (take i xs)) written))

  -- and so do they with a prefix of the next one's
  pub next_some : (c : Option (List ℕ)) (x : X) → i < length xs → x ≡ get_or xs i x → AppendsSome b c (f x)
      → AppendsSome a c (flat_map f xs)
  next_some c x within is some =
      let firsts = flat_map f (take i xs) in
      let joined : (firsts ++ f x) ++ flat_map f (drop (i + 1) xs) ≡ flat_map f xs =
      ap (λ l. (firsts ++ l) ++ flat_map f (drop (i + 1) xs)) (sym (append-nil (f x)))
      ∙ ap (λ l. l ++ flat_map f (drop (i + 1) xs)) (sym (flat_map-append f (take i xs) (x ∷ [])))
      ∙ sym (flat_map-append f (take i xs ++ x ∷ []) (drop (i + 1) xs)) ∙ ap (flat_map f) (and_others xs i x within is) in
      subst (AppendsSome a c) joined
      (longer_some a c (firsts ++ f x) (flat_map f (drop (i + 1) xs)) (then_some a b c firsts (f x) written some))
