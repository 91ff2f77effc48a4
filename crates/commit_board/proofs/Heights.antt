-- Lists of heights that never fall and end at most at a word.
use Rattle.std.proofs.Common.{◌≡◌, ◌≢◌, ℕ, ◌≤◌, Bool, true, false, eqb, eq-eqb, ne_eqb, List, [], ◌∷◌, ◌++◌, refl, ap, cond, arith}
use Rattle.std.specs.Prelude.{nat_le}
use Rattle.std.proofs.lemmas.Bool.{and_parts, and_from, leb-true, le-leb}
use Rattle.ledger_model.specs.Boards.{heights_of, rises_to}

pub heights_own : (r h : ℕ) (ps : List (ℕ × ℕ)) → heights_of r (ps ++ (r, h) ∷ []) ≡ heights_of r ps ++ h ∷ []
heights_own r h [] = ap (λ (b : Bool). cond b (h ∷ []) []) (eq-eqb r r refl)
heights_own r h (p ∷ ps) =
    elim (eqb p.0 r) as (λ (b : Bool). cond b (p.1 ∷ heights_of r (ps ++ (r, h) ∷ [])) (heights_of r (ps ++ (r, h) ∷ []))
    ≡ cond b (p.1 ∷ heights_of r ps) (heights_of r ps) ++ h ∷ []) [
      | true ↦ ap (λ (l : List ℕ). p.1 ∷ l) (heights_own r h ps)
      | false ↦ heights_own r h ps
    ]

pub heights_other : (r i h : ℕ) (ps : List (ℕ × ℕ)) → i ≢ r → heights_of r (ps ++ (i, h) ∷ []) ≡ heights_of r ps
heights_other r i h [] apart = ap (λ (b : Bool). cond b (h ∷ []) []) (ne_eqb i r apart)
heights_other r i h (p ∷ ps) apart = ap (λ (l : List ℕ). cond (eqb p.0 r) (p.1 ∷ l) l) (heights_other r i h ps apart)

-- what was found last rises to the word that was found
pub rises_last : (word : ℕ) (hs : List ℕ) → rises_to word hs ≡ true → rises_to word (hs ++ word ∷ []) ≡ true
rises_last word [] is = le-leb word word (omega arith)
rises_last word (h ∷ []) is = and_from (nat_le h word) (rises_to word (word ∷ [])) is (le-leb word word (omega arith))
rises_last word (h ∷ k ∷ hs) is = let both =
    and_parts (nat_le h k) (rises_to word (k ∷ hs)) is
    in and_from (nat_le h k) (rises_to word (k ∷ (hs ++ word ∷ []))) both.0 (rises_last word (k ∷ hs) both.1)

-- a word only rises
pub rises_more : (word more : ℕ) (hs : List ℕ) → word ≤ more → rises_to word hs ≡ true → rises_to more hs ≡ true
rises_more word more [] le is = refl
rises_more word more (h ∷ []) le is = let below = leb-true h word is in le-leb h more (omega arith)
rises_more word more (h ∷ k ∷ hs) le is = let both =
    and_parts (nat_le h k) (rises_to word (k ∷ hs)) is
    in and_from (nat_le h k) (rises_to more (k ∷ hs)) both.0 (rises_more word more (k ∷ hs) le both.1)
